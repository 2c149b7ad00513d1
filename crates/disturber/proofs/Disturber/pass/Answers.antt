use Rattle.std.proofs.Common.{◌≡◌, Some, Ok, sym, refl}
use Rattle.disturber.proofs.Disturbs.{passes_sound, passes_unsound}
use Rattle.disturber.proofs.Disturber.pass.Goals as goal

pub returns-then-is_sound : goal.returns-then-is_sound
returns-then-is_sound g c =
    let e : c.fetch.result ≡ Ok (Some c.in-Ok-Some.n) = cc in
    passes_sound g.C.Carrier.lanes c.args.self.now _ c.args.buffer.now c.fetch.new.buffer c.in-Ok-Some.n
    (rw e at c.fetch.ensures) (sym c.if-is_sound.ensures) refl c.keep.ensures

pub returns-else-is_sound : goal.returns-else-is_sound
returns-else-is_sound g c =
    let e : c.fetch.result ≡ Ok (Some c.in-Ok-Some.n) = cc in
    passes_unsound g.C.Carrier.lanes c.args.self.now _ c.args.buffer.now c.fetch.new.buffer c.in-Ok-Some.n
    (rw e at c.fetch.ensures) (sym c.if-is_sound.ensures) refl
