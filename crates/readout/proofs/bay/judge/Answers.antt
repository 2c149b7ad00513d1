use Rattle.std.proofs.Common.{◌≡◌, ℕ, Ok, Err, Result, ap, ◌∙◌}
use Rattle.std.proofs.lemmas.Result.{err_from_is_err_and}
use Rattle.std.proofs.lemmas.Bool.{eq-eqb}
use Rattle.message.specs.declared.check.Checked.{Checked}
use Rattle.message.specs.declared.fault.MessageFault.{MessageFault}
use Rattle.record.specs.declared.meter.Meter.{Meter}
use Rattle.message.specs.Check.{checked}
use Rattle.record.specs.Meters.{meter_format}
use Rattle.readout.specs.Judging.{shown, judgment}
use Rattle.readout.proofs.bay.judge.Goals as goal

-- where the checks pass and the number is the one asked for, the record decides
decides : (asked : ℕ) (k : Checked) (x : Result Checked MessageFault) (read y : Result Meter MessageFault) → Ok k ≡ x → read ≡ y
    → k.monitoring_number ≡ asked → shown k read ≡ judgment asked x y
decides asked k x read y hx hy same = rw (← hx, ← hy, eq-eqb k.monitoring_number asked same)

pub returns-in_err-reading : goal.returns-in_err-reading
returns-in_err-reading c =
    let out = err_from_is_err_and c.from_residual-in_err-reading.result c.from_residual-in_err-reading.ensures.1 in
    out.1 ∙ ap Err out.2
    ∙ decides c.args.request.now.monitoring_number c.in_ok-passed.passed (checked meter_format c.args.parameters.now c.args.message.now) (Err c.in_err-reading.field-0.0) _
    c.in_ok-passed.ensures c.in_err-reading.ensures c.if-passed-request.false

pub returns : goal.returns
returns c =
    decides c.args.request.now.monitoring_number c.in_ok-passed.passed (checked meter_format c.args.parameters.now c.args.message.now) (Ok c.in_ok-reading.reading) _
    c.in_ok-passed.ensures c.in_ok-reading.ensures c.if-passed-request.false
