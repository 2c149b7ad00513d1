use Rattle.std.proofs.Common.{◌≡◌, Some, None, Ok, rules}
use Rattle.consumer.proofs.Meeting.{met_disabled, met_started, met_expired, met_nothing, met_message}
use Rattle.consumer.proofs.consumer.Consumer.meet.Goals as goal

pub returns-then-not-inputs : goal.returns-then-not-inputs
returns-then-not-inputs g c = met_disabled c.if-not-inputs.true

pub returns-in_default : goal.returns-in_default
returns-in_default g c =
    let none : c.args.self.now.state.standing ≡ None = search rules in
    met_started c.if-not-inputs.false none

pub returns-then-has_expired : goal.returns-then-has_expired
returns-then-has_expired g c =
    met_expired c.if-not-inputs.false c.in-Some.standing c.in-Some.is c.has_expired.ensures c.if-has_expired.true

pub returns-in-Ok-None : goal.returns-in-Ok-None
returns-in-Ok-None g c =
    let came : c.fetch.result ≡ Ok None = search rules in
    met_nothing c.if-not-inputs.false c.in-Some.standing c.in-Some.is c.has_expired.ensures c.if-has_expired.false
    (g.C.Carrier.lanes c.fetch.new.self) c.fetch.new.buffer (rw came at c.fetch.ensures)

pub returns-in-Ok-Some : goal.returns-in-Ok-Some
returns-in-Ok-Some g c =
    let came : c.fetch.result ≡ Ok (Some c.in-Ok-Some.size) = cc in
    met_message c.if-not-inputs.false c.in-Some.standing c.in-Some.is c.has_expired.ensures c.if-has_expired.false
    (g.C.Carrier.lanes c.fetch.new.self) c.fetch.new.buffer c.in-Ok-Some.size c.hear.result (rw came at c.fetch.ensures) c.hear.ensures
