-- The bytes of an option say which it is.
use Rattle.std.proofs.Common.{◌≡◌, ℕ, List, ◌++◌, length, take, drop, refl, sym, ap, ◌∙◌, arith, inl, inr, length-append}
use Rattle.std.specs.Int.{from_be_bytes, w32}
use Rattle.std.proofs.lemmas.List.{take_at, drop_at}
use Rattle.std.proofs.lemmas.Nat.{from_be_bytes-to_be_bytes_4}
use Rattle.nbd_stream.specs.Options.{AskedOption, IsOption, IsOptionBeginning, OptionOneWayLaw, option_bytes}

asked : ℕ → List ℕ → AskedOption
asked code body = record { code = code; body = body }

abbrev code_in : List ℕ → ℕ
code_in l = from_be_bytes w32 (take 4 (drop 8 l))

abbrev count_in : List ℕ → ℕ
count_in l = from_be_bytes w32 (take 4 (drop 12 l))

option_same : (o p : AskedOption) (x y : List ℕ) → IsOption o → IsOption p → option_bytes o ++ x ≡ option_bytes p ++ y → (o ≡ p) × (x ≡ y)
unfolding asked
option_same o p x y wo wp e =
    let code : o.code ≡ p.code = sym (from_be_bytes-to_be_bytes_4 o.code wo.code) ∙ ap code_in e ∙ from_be_bytes-to_be_bytes_4 p.code wp.code in
    let count : length o.body ≡ length p.body = sym (from_be_bytes-to_be_bytes_4 (length o.body) wo.count) ∙ ap count_in e ∙ from_be_bytes-to_be_bytes_4 (length p.body) wp.count in
    let rest : o.body ++ x ≡ p.body ++ y = ap (drop 16) e in
    let body : o.body ≡ p.body = sym (take_at o.body x (length o.body) refl) ∙ ap (take (length o.body)) rest ∙ take_at p.body y (length o.body) (sym count) in
    let after : x ≡ y = sym (drop_at o.body x (length o.body) refl) ∙ ap (drop (length o.body)) rest ∙ drop_at p.body y (length o.body) (sym count) in
    (ap (λ (n : ℕ). asked n o.body) code ∙ ap (λ (b : List ℕ). asked p.code b) body, after)

not_begun : (o : AskedOption) (more : List ℕ) → IsOption o → IsOptionBeginning (option_bytes o ++ more) → ⊥
not_begun o more w (inl short) = absurd (omega arith)
not_begun o more w (inr (code, count, part, cut)) =
    let long : length o.body ≡ count = sym (from_be_bytes-to_be_bytes_4 (length o.body) w.count) ∙ ap count_in cut.whole ∙ from_be_bytes-to_be_bytes_4 count cut.count_fits in
    let rest : o.body ++ more ≡ part = ap (drop 16) cut.whole in
    absurd (omega (arith, ap length rest, length-append o.body more, cut.short, long))

pub option_once : OptionOneWayLaw
option_once o more w = record {
  same = λ p other wp e. option_same o p more other w wp e;
  whole = λ begun. not_begun o more w begun;
  header = refl;
}
