use Rattle.std.proofs.Common.{rules, ◌≡◌, ℕ, ◌/◌, ◌%◌, List, length, take, drop, reverse, fold, ap, ◌∙◌, length-drop, arith}
use Rattle.signature.specs.Signature.{entered, octet_step}
use Rattle.signature.proofs.Octets.{one_by_one, chunk_by_chunk, entered_split}
use Rattle.signature.proofs.remainder.Goals as goal

-- the chunks of eight enter, and then the octets before them
pub returns : goal.returns
returns c =
    let xs : List ℕ = c.args.octets.now in
    let n : ℕ = length xs % 8 in
    let lowest : List ℕ = c.as_rchunks.result.0.now in
    let eights : List (List ℕ) = c.as_rchunks.result.1.now in
    let first : c.fold-register.result ≡ fold (λ r os. entered r os) 1 (reverse eights) = search rules in
    let second : c.fold.result ≡ fold octet_step c.fold-register.result (reverse lowest) = search rules in
    let high : c.fold-register.result ≡ entered 1 (drop n xs) =
    first ∙ ap (λ b. fold (λ r os. entered r os) 1 (reverse b)) c.as_rchunks.ensures.back
    ∙ chunk_by_chunk 1 8 (length xs / 8) (drop n xs) (omega (arith, length-drop n xs)) in
    second ∙ one_by_one c.fold-register.result lowest ∙ ap (entered c.fold-register.result) c.as_rchunks.ensures.front
    ∙ ap (λ r. entered r (take n xs)) high ∙ entered_split 1 n xs
