-- Sectors as bytes.
use Rattle.std.proofs.Common.{◌≡◌, ◌<◌, ◌+◌, ◌*◌, ℕ, zero, suc, List, [], ◌∷◌, ◌++◌, length, get_or, refl, sym, ap, ◌∙◌, arith, length-append, append_assoc}
use Rattle.std.specs.Prelude.{slice_range, slice_set}
use Rattle.nbd_stream.specs.Disk.{with_bytes}
use Rattle.disk_server.specs.Flat.{AreSectors, FlatLaw, flat}
use Rattle.disk_server.proofs.Bytes.{range_parts, with_parts}

-- a sector of a list: the bytes before it and those behind it, which stay where it is replaced
record Cut (size sector : ℕ) (sectors : List (List ℕ)) : Type 0 where
  a : List ℕ
  c : List ℕ
  long : length a ≡ sector * size
  its_long : length (get_or sectors sector []) ≡ size
  whole : flat sectors ≡ a ++ (get_or sectors sector [] ++ c)
  replaced : (body : List ℕ) → flat (slice_set sectors sector body) ≡ a ++ (body ++ c)

cut_at : (size sector : ℕ) (sectors : List (List ℕ)) → AreSectors size sectors → sector < length sectors → Cut size sector sectors
cut_at size sector [] are within = absurd (omega (arith, within))
cut_at size zero (s ∷ ss) are within = record { a = []; c = flat ss; long = omega arith; its_long = are.0; whole = refl; replaced = λ body. refl }
cut_at size (suc sector) (s ∷ ss) are within =
    let its : Cut size sector ss = cut_at size sector ss are.1 (omega (arith, within)) in
    let more : suc sector * size ≡ size + sector * size = omega arith in
    record {
      a = s ++ its.a;
      c = its.c;
      long = length-append s its.a ∙ ap (λ (n : ℕ). n + length its.a) are.0 ∙ ap (λ (n : ℕ). size + n) its.long ∙ sym more;
      its_long = its.its_long;
      whole = ap (λ (l : List ℕ). s ++ l) its.whole ∙ sym (append_assoc s its.a (get_or ss sector [] ++ its.c));
      replaced = λ body. ap (λ (l : List ℕ). s ++ l) (its.replaced body) ∙ sym (append_assoc s its.a (body ++ its.c));
    }

flat_long : (size : ℕ) (sectors : List (List ℕ)) → AreSectors size sectors → length (flat sectors) ≡ length sectors * size
flat_long size [] are = omega arith
flat_long size (s ∷ ss) are =
    let more : length (s ∷ ss) * size ≡ size + length ss * size = omega arith in
    length-append s (flat ss) ∙ ap (λ (n : ℕ). n + length (flat ss)) are.0 ∙ ap (λ (n : ℕ). size + n) (flat_long size ss are.1) ∙ sym more

pub flat_law : FlatLaw
flat_law size sector body sectors are within long =
    let its : Cut size sector sectors = cut_at size sector sectors are within in
    let given : slice_range (its.a ++ (get_or sectors sector [] ++ its.c)) (sector * size) (sector * size + size) ≡ get_or sectors sector [] =
    range_parts its.a (get_or sectors sector []) its.c (sector * size) size its.long its.its_long in
    let set : with_bytes (sector * size) body (its.a ++ (get_or sectors sector [] ++ its.c)) ≡ its.a ++ (body ++ its.c) =
    with_parts its.a (get_or sectors sector []) its.c body (sector * size) its.long (its.its_long ∙ sym long) in (
      flat_long size sectors are,
      ap (λ (l : List ℕ). slice_range l (sector * size) (sector * size + size)) its.whole ∙ given,
      its.replaced body ∙ sym set ∙ ap (with_bytes (sector * size) body) (sym its.whole),
    )
