use Rattle.std.proofs.Common.{ℕ, ◌+◌, ◌*◌, ◌^◌, List, [], get_or, map, ap, ◌∙◌, arith}
use Rattle.std.specs.List.{range_with_len}
use Rattle.std.proofs.lemmas.List.FromFn.{get_or-map-range_with_len}
use Rattle.signature.specs.Signature.{bit_step, bit_steps}
use Rattle.signature.proofs.row.Goals as goal

-- row k of table j
abbrev entry : ℕ → ℕ → ℕ
entry j k = bit_steps (8 * (j + 1)) (k * 2 ^ 24)

abbrev table : ℕ → List ℕ
table j = map (entry j) (range_with_len 0 256)

-- all 2048 rows are computed here, and compared with those of the code
pub returns : goal.returns
unfolding bit_step
returns c =
    let j : ℕ = c.args.table in
    let k : ℕ = c.args.octet in
    ap (λ rows. get_or rows k 0) (get_or-map-range_with_len table 0 8 j j [] (omega arith) (omega arith))
    ∙ get_or-map-range_with_len (entry j) 0 256 k k 0 (omega arith) (omega arith)
