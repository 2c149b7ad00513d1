use Rattle.std.proofs.Common.{sym, subst}
use Rattle.carrier.specs.declared.lane.Lane.TheVariants.{Up}
use Rattle.carrier.specs.Place.{Placed}
use Rattle.consumer.specs.Cycled.{SentSo}
use Rattle.consumer.proofs.Meeting.{sent_so}
use Rattle.consumer.proofs.consumer.Consumer.send.Goals as goal

pub returns-in-Some : goal.returns-in-Some
returns-in-Some g c =
    let k = g.C.Carrier.lanes c.args.carrier.now in
    let l = g.C.Carrier.lanes c.place.new.self in
    subst (λ q. SentSo k q l) (sym c.in-Some.is)
    (sent_so c.in-Some.asked k l c.place.result (subst (λ m. Placed Up m k l c.place.result) c.octets.ensures c.place.ensures))
