use Rattle.std.proofs.Common.{◌≡◌, Some, Ok, sym, ap, ◌∙◌, arith}
use Rattle.provider.proofs.Serving.{served_taken, served_full}
use Rattle.provider.proofs.provider.Provider.serve.Goals as goal

pub returns-in-Ok-clause-served : goal.returns-in-Ok-clause-served
returns-in-Ok-clause-served g c =
    let came : c.fetch.result ≡ Ok (Some c.in-Some.size) = c.in_ok-size.was ∙ ap Ok c.in-Some.is in
    served_taken g.K.RecordKind.format g.met.K.RecordKind.lawful c.args.self.now.parameters c.args.self.now.memory
    c.args.given c.args.flags (g.C.Carrier.lanes c.args.carrier.now) (g.C.Carrier.lanes c.fetch.new.self)
    (g.C.Carrier.lanes c.place.new.self) c.args.buffer.now c.fetch.new.buffer c.in-Some.size (omega arith)
    (sym c.is_sound.ensures ∙ c.if-not-is_sound.false) (rw came at c.fetch.ensures) c.in-Some-read.request (sym c.read.ensures ∙ c.in-Some-read.is)
    c.respond-told.result.0 c.respond-told.ensures.response
    c.build.new.buffer c.in_ok-end.end (sym c.build.ensures.answer ∙ c.in_ok-end.was) c.build.ensures.written
    c.in-Ok.field-0 c.respond-told.result.1 c.respond-told.ensures.told c.in-Ok.ensures

pub returns-in-Err-clause-served : goal.returns-in-Err-clause-served
returns-in-Err-clause-served g c =
    let came : c.fetch.result ≡ Ok (Some c.in-Some.size) = c.in_ok-size.was ∙ ap Ok c.in-Some.is in
    served_full g.K.RecordKind.format g.met.K.RecordKind.lawful c.args.self.now.parameters c.args.self.now.memory
    c.args.given c.args.flags (g.C.Carrier.lanes c.args.carrier.now) (g.C.Carrier.lanes c.fetch.new.self)
    (g.C.Carrier.lanes c.place.new.self) c.args.buffer.now c.fetch.new.buffer c.in-Some.size (omega arith)
    (sym c.is_sound.ensures ∙ c.if-not-is_sound.false) (rw came at c.fetch.ensures) c.in-Some-read.request (sym c.read.ensures ∙ c.in-Some-read.is)
    c.respond-told.result.0 c.respond-told.ensures.response
    c.build.new.buffer c.in_ok-end.end (sym c.build.ensures.answer ∙ c.in_ok-end.was) c.build.ensures.written
    c.in-Err.field-0 c.in-Err.ensures
