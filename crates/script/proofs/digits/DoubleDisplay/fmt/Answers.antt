use Rattle.std.proofs.Common.{◌<◌, ◌^◌, sym}
use Rattle.script.proofs.Hexadecimal.{sixteen_digits}
use Rattle.script.proofs.digits.DoubleDisplay.fmt.Goals as goal

pub returns-clause-writes : goal.returns-clause-writes
returns-clause-writes g c =
    let bits = c.f64_to_bits_with_nan-bits.result in
    let fits : bits < 2 ^ 64 = c.f64_to_bits_with_nan-bits.type_inv in
    let wrote = rw (c.laid_out.ensures, c.in_radix.ensures, sixteen_digits bits fits) at c.write.ensures.writes in
    rw (sym c.f64_to_bits_with_nan-bits.ensures) wrote
