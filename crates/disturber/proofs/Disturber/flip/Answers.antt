use Rattle.std.proofs.Common.{◌≡◌, Some, Ok, sym, refl}
use Rattle.disturber.proofs.Disturbs.{flips_sound, flips_unsound}
use Rattle.disturber.proofs.Disturber.flip.Goals as goal

pub returns-then-is_sound : goal.returns-then-is_sound
returns-then-is_sound g c =
    let e : c.fetch.result ≡ Ok (Some c.in-Ok-Some.n) = cc in
    flips_sound g.C.Carrier.lanes c.args.self.now _ _ c.fetch.new.buffer c.in-Ok-Some.n (rw e at c.fetch.ensures)
    (refl {a = c.args.self.now.script}) c.args.buffer.now (sym c.if-is_sound.ensures)

pub returns : goal.returns
returns g c =
    let e : c.fetch.result ≡ Ok (Some c.in-Ok-Some.n) = cc in
    flips_unsound g.C.Carrier.lanes c.args.self.now _ _ c.fetch.new.buffer c.in-Ok-Some.n (rw e at c.fetch.ensures)
    refl c.args.buffer.now c.copy_from_slice.new.self (sym c.if-is_sound.ensures) c.copy_from_slice.ensures.after
