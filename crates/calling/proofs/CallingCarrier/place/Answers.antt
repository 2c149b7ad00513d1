use Rattle.std.proofs.Common.{◌≡◌, rules}
use Rattle.calling.proofs.Meanings.{places}
use Rattle.calling.proofs.CallingCarrier.place.Goals as goal
use Rattle.carrier.specs.declared.lane.Lane.TheVariants.{Up, Down}

pub returns-in-Up-clause-carries : goal.returns-in-Up-clause-carries
returns-in-Up-clause-carries c =
    let m = c.in_ok-message.message in
    let e : m.octets.now ≡ c.args.message.now = search rules in
    rw (c.in-Up.is, ← e)
    (places Up c.args.self.now.up c.args.self.now.down _ m.octets.now c.place.result (m.some, m.fits)
    c.if-not-is_steady.ensures c.place.ensures)

pub returns-in-Down-clause-carries : goal.returns-in-Down-clause-carries
returns-in-Down-clause-carries c =
    let m = c.in_ok-message.message in
    let e : m.octets.now ≡ c.args.message.now = search rules in
    rw (c.in-Down.is, ← e)
    (places Down c.args.self.now.up c.args.self.now.down _ m.octets.now c.place-in-Down.result (m.some, m.fits)
    c.if-not-is_steady.ensures c.place-in-Down.ensures)
