use Rattle.std.proofs.Common.{◌≡◌, ◌-◌, ◌++◌, ap, ◌∙◌, drop, take, length, List, ℕ, arith}
use Rattle.std.proofs.lemmas.List.{length-drop, take_all}
use Rattle.byteorder.specs.Endian.{big_bytes}
use Rattle.keybytes.specs.declared.pair.Pair.{Pair}
use Rattle.prefix_spool.proofs.Stands.{pair_written}
use Rattle.prefix_spool.proofs.area.write_pair.Goals as goal

pub returns-clause-bytes : goal.returns-clause-bytes
returns-clause-bytes c =
    let n : ℕ = c.args.shared in
    let p : Pair = c.args.pair.now in
    let key : List ℕ = c.bytes.result.now in
    let more : List ℕ = take (length key - n) (drop n key) in
    let k : more ≡ drop n p.key = take_all (length key - n) (drop n key) (omega (arith, length-drop n key)) ∙ ap (drop n) c.bytes.ensures.bytes in
    let len : length more ≡ length p.key - n = ap length k ∙ length-drop n p.key in
    let head : c.head_to_bytes.result ≡ big_bytes 2 n ++ big_bytes 2 (length p.key - n) =
    c.head_to_bytes.ensures ∙ ap (λ (i : ℕ). big_bytes 2 n ++ big_bytes 2 i) len in
    pair_written n p c.args.at c.args.bytes.now c.write_at.new.bytes c.write_at-2.new.bytes c.write_at-3.new.bytes c.head_to_bytes.result more
    c.rid_to_bytes.result (omega (arith, c.told-bytes, c.requires.room)) k head c.rid_to_bytes.ensures c.write_at.ensures c.write_at-2.ensures
    c.write_at-3.ensures
