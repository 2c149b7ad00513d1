use Rattle.std.proofs.Common.{refl, rules}
use Rattle.disturber.specs.Disturbing.{kept_of}
use Rattle.disturber.proofs.Carries.{carries, widens}
use Rattle.disturber.proofs.Disturbs.{uses_one}
use Rattle.disturber.proofs.Layers.{up_fetched}
use Rattle.disturber.proofs.DisturberCarrier.fetch.Goals as goal

pub returns-in-Up : goal.returns-in-Up
returns-in-Up g c =
    let d = c.args.self.now in
    let lanes = g.C.Carrier.lanes in
    rw c.in-Up.is (record {
      carries = up_fetched (kept_of d) (lanes d.below) (lanes c.fetch.new.self) c.args.buffer.now c.fetch.new.buffer
          c.fetch.result c.fetch.ensures;
      disturbs = record { below = c.fetch.ensures; script = refl {a = d.script} };
    })

pub returns-in_default-first_chunk_mut-clause-disturbs : goal.returns-in_default-first_chunk_mut-clause-disturbs
returns-in_default-first_chunk_mut-clause-disturbs g c =
    rw c.in_default.is (record { refused = λ _. (refl, refl, refl); fetched = λ long. search rules })

pub returns : goal.returns
returns g c =
    let d = c.args.self.now in
    let d' = c.disturb.new.self in
    let s = c.args.buffer.now in
    let first = c.in-Some.ensures.cases in
    let a = c.advance-disturbance in
    let p = uses_one g.C.Carrier.lanes d d' _ _ _ a.result a.new.self a.ensures.disturbance a.ensures.moves
    a.ensures.kept c.disturb.ensures in
    let q = widens g.C.Carrier.lanes d d' _ _ _ _ s _ first.enough first.same p in
    rw c.in_default.is (record {
      carries = carries g.C.Carrier.lanes d d' _ s _ _ _ first.enough q;
      disturbs = record { refused = λ short. search rules; fetched = λ _. q };
    })
