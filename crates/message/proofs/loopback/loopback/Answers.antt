use Rattle.std.proofs.Common.{Err, sym, ap, ◌∙◌, arith}
use Rattle.std.proofs.lemmas.Result.{err_from_is_err_and}
use Rattle.message.proofs.Loops.{loop_ok, loop_judged, loop_read}
use Rattle.message.proofs.loopback.loopback.Goals as goal

pub returns-in_err-checked : goal.returns-in_err-checked
returns-in_err-checked g c =
    let r = c.args.response in
    let out = err_from_is_err_and c.from_residual-in_err-checked.result c.from_residual-in_err-checked.ensures.1 in
    record {
      answer = out.1 ∙ ap Err out.2
          ∙ loop_judged g.K.RecordKind.format g.met.K.RecordKind.lawful c.args.parameters.now r (omega arith) (omega arith)
          c.args.buffer.now c.build.new.buffer c.in_ok-end.end
          (sym c.build.ensures.answer ∙ c.in_ok-end.was) c.build.ensures.written
          c.in_err-checked.field-0.0 (sym c.check.ensures ∙ c.in_err-checked.was);
      written = c.build.ensures.written;
    }

pub returns-in_err-safety_data : goal.returns-in_err-safety_data
returns-in_err-safety_data g c =
    let r = c.args.response in
    absurd (loop_read g.K.RecordKind.format g.met.K.RecordKind.lawful c.args.parameters.now r (omega arith) (omega arith)
    c.args.buffer.now c.build.new.buffer c.in_ok-end.end
    (sym c.build.ensures.answer ∙ c.in_ok-end.was) c.build.ensures.written
    c.in_err-safety_data.field-0.0 (sym c.read_record.ensures ∙ c.in_err-safety_data.was))

pub returns : goal.returns
returns g c =
    let r = c.args.response in
    record {
      answer = loop_ok g.K.RecordKind.format g.met.K.RecordKind.lawful c.args.parameters.now r (omega arith) (omega arith)
          c.args.buffer.now c.build.new.buffer c.in_ok-end.end
          (sym c.build.ensures.answer ∙ c.in_ok-end.was) c.build.ensures.written
          c.in_ok-checked.checked c.in_ok-safety_data.safety_data
          (sym c.check.ensures ∙ c.in_ok-checked.was) (sym c.read_record.ensures ∙ c.in_ok-safety_data.was);
      written = c.build.ensures.written;
    }
