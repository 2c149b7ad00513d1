use Rattle.std.proofs.Common.{Some, refl, ap, ◌∙◌}
use Rattle.carrier.specs.declared.lane.Lane.TheVariants.{Up, Down}
use Rattle.carrier.proofs.Cells.{publishes}
use Rattle.carrier.proofs.publishing.PublishingCarrier.place.Goals as goal

pub returns-in-Up : goal.returns-in-Up
returns-in-Up c =
    let p = c.args.self.now in
    let taken = c.in_ok-message.ensures in
    rw c.in-Up.is (publishes Up c.args.message.now p.up p.down c.hold.new.self p.down c.hold.new.self taken.1
    (c.hold.ensures ∙ ap (λ o. Some o.now) taken.0) refl)

pub returns-in-Down : goal.returns-in-Down
returns-in-Down c =
    let p = c.args.self.now in
    let taken = c.in_ok-message.ensures in
    rw c.in-Down.is (publishes Down c.args.message.now p.up p.down p.up c.hold-in-Down.new.self
    c.hold-in-Down.new.self taken.1 (c.hold-in-Down.ensures ∙ ap (λ o. Some o.now) taken.0) refl)
