-- Lists of bytes of which a range is set, and set again.
use Rattle.std.proofs.Common.{◌≡◌, ◌<◌, ◌≤◌, ◌+◌, ◌-◌, ◌*◌, ◌/◌, ◌%◌, inl, inr, ℕ, suc, List, ◌++◌, length, take, drop, sym, ap, ◌∙◌, subst, arith, append_assoc, length-append, length-drop}
use Rattle.std.specs.Prelude.{slice_range}
use Rattle.std.proofs.lemmas.Bool.{cases_lt}
use Rattle.std.proofs.lemmas.List.{drop_at, take_at, take-append-drop, drop-drop, length-take-le, get_or_append_left}
use Rattle.std.proofs.lemmas.Nat.{div-add-mod'}
use Rattle.std.proofs.Math.Nat.{mul-le-mul_right}
use Rattle.std.proofs.Math.Seq.{take-add}
use Rattle.nbd_stream.specs.Disk.{IsOldOrDue, with_bytes}
use Rattle.nbd_stream.proofs.DiskLemmas.{before_it, inside_it, past_it}

-- ---- a list in parts

-- a range that stands between two others
pub with_parts : (a p c body : List ℕ) (o : ℕ) → length a ≡ o → length p ≡ length body → with_bytes o body (a ++ (p ++ c)) ≡ a ++ (body ++ c)
with_parts a p c body o long same =
    let past : drop (o + length body) (a ++ (p ++ c)) ≡ c =
    ap (drop (o + length body)) (sym (append_assoc a p c)) ∙ drop_at (a ++ p) c (o + length body) (omega (arith, length-append a p, long, same)) in
    ap (λ (l : List ℕ). l ++ (body ++ drop (o + length body) (a ++ (p ++ c)))) (take_at a (p ++ c) o long) ∙ ap (λ (l : List ℕ). a ++ (body ++ l)) past

pub range_parts : (a p c : List ℕ) (o n : ℕ) → length a ≡ o → length p ≡ n → slice_range (a ++ (p ++ c)) o (o + n) ≡ p
range_parts a p c o n long same =
    ap (take ((o + n) - o)) (drop_at a (p ++ c) o long) ∙ take_at p c ((o + n) - o) (omega (arith, same))

-- a list, cut at two places
cut : (o n : ℕ) (s : List ℕ) → s ≡ take o s ++ (take n (drop o s) ++ drop n (drop o s))
cut o n s = sym (take-append-drop o s) ∙ ap (λ (l : List ℕ). take o s ++ l) (sym (take-append-drop n (drop o s)))

-- as many as are cut out
cut_long : (o n : ℕ) (s : List ℕ) → o + n ≤ length s → length (take n (drop o s)) ≡ n
cut_long o n s fits = length-take-le n (drop o s) (omega (arith, length-drop o s, fits))

-- a range that is set to what it has leaves all as it was
pub set_same : (s : List ℕ) (o n : ℕ) → o + n ≤ length s → with_bytes o (slice_range s o (o + n)) s ≡ s
set_same s o n fits =
    let here : slice_range s o (o + n) ≡ take n (drop o s) = ap (λ (m : ℕ). take m (drop o s)) (omega arith) in
    let past : drop (o + length (take n (drop o s))) s ≡ drop n (drop o s) = ap (λ (m : ℕ). drop (o + m) s) (cut_long o n s fits) ∙ sym (drop-drop n o s) in
    ap (λ (l : List ℕ). with_bytes o l s) here ∙ ap (λ (l : List ℕ). take o s ++ (take n (drop o s) ++ l)) past ∙ sym (cut o n s)

-- ---- a range, and the one behind it

more_parts : (a p q c front piece : List ℕ) (o place : ℕ) → length a ≡ o → length p ≡ length front → length q ≡ length piece → place ≡ o + length front
    → with_bytes place piece (with_bytes o front (a ++ (p ++ (q ++ c)))) ≡ with_bytes o (front ++ piece) (a ++ (p ++ (q ++ c)))
more_parts a p q c front piece o place long same same' is =
    let one : with_bytes o front (a ++ (p ++ (q ++ c))) ≡ (a ++ front) ++ (q ++ c) = with_parts a p (q ++ c) front o long same ∙ sym (append_assoc a front (q ++ c)) in
    let two : with_bytes place piece ((a ++ front) ++ (q ++ c)) ≡ (a ++ front) ++ (piece ++ c) = with_parts (a ++ front) q c piece place (omega (arith, length-append a front, long, is)) same' in
    let both : with_bytes o (front ++ piece) (a ++ ((p ++ q) ++ c)) ≡ a ++ ((front ++ piece) ++ c) =
    with_parts a (p ++ q) c (front ++ piece) o long (omega (arith, length-append p q, length-append front piece, same, same')) in
    ap (with_bytes place piece) one ∙ two ∙ append_assoc a front (piece ++ c)
    ∙ ap (λ (l : List ℕ). a ++ l) (sym (append_assoc front piece c)) ∙ sym both
    ∙ ap (λ (l : List ℕ). with_bytes o (front ++ piece) (a ++ l)) (append_assoc p q c)

-- a range that is set, and then the one behind it: both are set
pub with_more : (front piece s : List ℕ) (o place : ℕ) → place ≡ o + length front → o + length (front ++ piece) ≤ length s
    → with_bytes place piece (with_bytes o front s) ≡ with_bytes o (front ++ piece) s
with_more front piece s o place is fits =
    let k : ℕ = length front in
    let m : ℕ = length piece in
    let fits' : o + (k + m) ≤ length s = omega (arith, length-append front piece, fits) in
    let rest : List ℕ = drop k (drop o s) in
    let all : s ≡ take o s ++ (take k (drop o s) ++ (take m rest ++ drop m rest)) = cut o k s ∙ ap (λ (l : List ℕ). take o s ++ (take k (drop o s) ++ l)) (sym (take-append-drop m rest)) in
    let here = more_parts (take o s) (take k (drop o s)) (take m rest) (drop m rest) front piece o place (length-take-le o s (omega (arith, fits'))) (cut_long o k s (omega (arith, fits')))
    (length-take-le m rest (omega (arith, length-drop k (drop o s), length-drop o s, fits'))) is in
    subst (λ (l : List ℕ). with_bytes place piece (with_bytes o front l) ≡ with_bytes o (front ++ piece) l) (sym all) here

-- two ranges that are given one behind another are one
pub range_more : (s : List ℕ) (o k m place : ℕ) → place ≡ o + k → slice_range s o (o + k) ++ slice_range s place (place + m) ≡ slice_range s o (o + (k + m))
range_more s o k m place is =
    let first : slice_range s o (o + k) ≡ take k (drop o s) = ap (λ (n : ℕ). take n (drop o s)) (omega arith) in
    let later : slice_range s place (place + m) ≡ take m (drop k (drop o s)) =
    ap (λ (n : ℕ). take n (drop place s)) (omega arith) ∙ ap (λ (n : ℕ). take m (drop n s)) is ∙ ap (take m) (sym (drop-drop k o s)) in
    let both : slice_range s o (o + (k + m)) ≡ take (k + m) (drop o s) = ap (λ (n : ℕ). take n (drop o s)) (omega arith) in
    ap (λ (l : List ℕ). l ++ slice_range s place (place + m)) first ∙ ap (λ (l : List ℕ). take k (drop o s) ++ l) later ∙ sym (take-add k m (drop o s)) ∙ sym both

-- where a front of a range is set, each byte is as it was or as the whole range sets it
pub front_either : (front rest s : List ℕ) (o p : ℕ) → o + length (front ++ rest) ≤ length s → IsOldOrDue s (with_bytes o (front ++ rest) s) (with_bytes o front s) p
front_either front rest s o p fits =
    let fits' : o + length front ≤ length s = omega (arith, length-append front rest, fits) in
    let more : length front ≤ length (front ++ rest) = omega (arith, length-append front rest) in
    elim (cases_lt p o) [
      | inl before ↦ inl (before_it o front s p fits' before)
      | inr from ↦ elim (cases_lt p (o + length front)) [
        | inl to ↦ inr (inside_it o front s p fits' from to ∙ sym (get_or_append_left front rest 0 (p - o) (omega (arith, from, to)))
            ∙ sym (inside_it o (front ++ rest) s p fits from (omega (arith, to, more))))
        | inr past ↦ inl (past_it o front s p fits' past)
      ]
    ]

-- ---- a part of a sector

regroup : (a b x c d : List ℕ) → a ++ ((b ++ (x ++ c)) ++ d) ≡ (a ++ b) ++ (x ++ (c ++ d))
regroup a b x c d =
    ap (λ (l : List ℕ). a ++ l) (append_assoc b (x ++ c) d ∙ ap (λ (l : List ℕ). b ++ l) (append_assoc x c d)) ∙ sym (append_assoc a b (x ++ (c ++ d)))

-- A SECTOR IN PARTS: those before the sector, those before the part, the part, those behind it, and those behind the sector
record Parts (base start m size : ℕ) (s : List ℕ) : Type 0 where
  a : List ℕ
  b : List ℕ
  p : List ℕ
  c : List ℕ
  d : List ℕ
  whole : s ≡ a ++ ((b ++ (p ++ c)) ++ d)
  a_long : length a ≡ base
  b_long : length b ≡ start
  p_long : length p ≡ m
  sector_long : length (b ++ (p ++ c)) ≡ size

parts : (base start m size : ℕ) (s : List ℕ) → start + m ≤ size → base + size ≤ length s → Parts base start m size s
parts base start m size s within fits =
    let sector : List ℕ = take size (drop base s) in
    let long : length sector ≡ size = cut_long base size s fits in
    let inner : sector ≡ take start sector ++ (take m (drop start sector) ++ drop m (drop start sector)) = cut start m sector in
    record {
      a = take base s;
      b = take start sector;
      p = take m (drop start sector);
      c = drop m (drop start sector);
      d = drop size (drop base s);
      whole = cut base size s ∙ ap (λ (l : List ℕ). take base s ++ (l ++ drop size (drop base s))) inner;
      a_long = length-take-le base s (omega (arith, fits));
      b_long = length-take-le start sector (omega (arith, long, within));
      p_long = cut_long start m sector (omega (arith, long, within));
      sector_long = sym (ap (λ (l : List ℕ). length l) inner) ∙ long;
    }

-- A SECTOR THAT IS READ, CHANGED AND WRITTEN is the part that is set
pub part_set : (part s : List ℕ) (base start size offset : ℕ) → start + length part ≤ size → base + size ≤ length s → offset ≡ base + start
    → with_bytes base (with_bytes start part (slice_range s base (base + size))) s ≡ with_bytes offset part s
part_set part s base start size offset within fits is =
    let its = parts base start (length part) size s within fits in
    let sector : List ℕ = its.b ++ (its.p ++ its.c) in
    let now : List ℕ = its.b ++ (part ++ its.c) in
    let all : List ℕ = its.a ++ (sector ++ its.d) in
    let read : slice_range all base (base + size) ≡ sector = range_parts its.a sector its.d base size its.a_long its.sector_long in
    let changed : with_bytes start part sector ≡ now = with_parts its.b its.p its.c part start its.b_long its.p_long in
    let as_long : length sector ≡ length now =
    omega (arith, length-append its.b (its.p ++ its.c), length-append its.p its.c, length-append its.b (part ++ its.c), length-append part its.c, its.p_long) in
    let written : with_bytes base now all ≡ its.a ++ (now ++ its.d) = with_parts its.a sector its.d now base its.a_long as_long in
    let set : with_bytes offset part ((its.a ++ its.b) ++ (its.p ++ (its.c ++ its.d))) ≡ (its.a ++ its.b) ++ (part ++ (its.c ++ its.d)) =
    with_parts (its.a ++ its.b) its.p (its.c ++ its.d) part offset (omega (arith, length-append its.a its.b, its.a_long, its.b_long, is)) its.p_long in
    let here : with_bytes base (with_bytes start part (slice_range all base (base + size))) all ≡ with_bytes offset part all =
    ap (λ (l : List ℕ). with_bytes base (with_bytes start part l) all) read ∙ ap (λ (l : List ℕ). with_bytes base l all) changed ∙ written
    ∙ regroup its.a its.b part its.c its.d ∙ sym set ∙ ap (with_bytes offset part) (sym (regroup its.a its.b its.p its.c its.d)) in
    subst (λ (l : List ℕ). with_bytes base (with_bytes start part (slice_range l base (base + size))) l ≡ with_bytes offset part l) (sym its.whole) here

-- a part of a sector that is read is that range
pub part_read : (s : List ℕ) (base start m size offset : ℕ) → start + m ≤ size → base + size ≤ length s → offset ≡ base + start
    → slice_range (slice_range s base (base + size)) start (start + m) ≡ slice_range s offset (offset + m)
part_read s base start m size offset within fits is =
    let its = parts base start m size s within fits in
    let sector : List ℕ = its.b ++ (its.p ++ its.c) in
    let all : List ℕ = its.a ++ (sector ++ its.d) in
    let read : slice_range all base (base + size) ≡ sector = range_parts its.a sector its.d base size its.a_long its.sector_long in
    let part : slice_range sector start (start + m) ≡ its.p = range_parts its.b its.p its.c start m its.b_long its.p_long in
    let direct : slice_range ((its.a ++ its.b) ++ (its.p ++ (its.c ++ its.d))) offset (offset + m) ≡ its.p =
    range_parts (its.a ++ its.b) its.p (its.c ++ its.d) offset m (omega (arith, length-append its.a its.b, its.a_long, its.b_long, is)) its.p_long in
    let here : slice_range (slice_range all base (base + size)) start (start + m) ≡ slice_range all offset (offset + m) =
    ap (λ (l : List ℕ). slice_range l start (start + m)) read ∙ part ∙ sym direct
    ∙ ap (λ (l : List ℕ). slice_range l offset (offset + m)) (sym (regroup its.a its.b its.p its.c its.d)) in
    subst (λ (l : List ℕ). slice_range (slice_range l base (base + size)) start (start + m) ≡ slice_range l offset (offset + m)) (sym its.whole) here

-- ---- where a place stands

-- the sector of a place, and the place in it
pub place_is : (offset size : ℕ) → offset ≡ (offset / size) * size + offset % size
place_is offset size = sym (div-add-mod' offset size)

-- a sector that the device has is within its bytes
pub sector_fits : (sector count size long : ℕ) → sector < count → long ≡ count * size → sector * size + size ≤ long
sector_fits sector count size long within whole =
    let room : suc sector * size ≤ count * size = mul-le-mul_right size within in
    let one : suc sector * size ≡ sector * size + size = omega arith in
    omega (arith, room, one, whole)

-- what the part is that was lent and given back
pub lent_back : (start k : ℕ) (part sector : List ℕ) → k ≡ length part → take start sector ++ (part ++ drop k (drop start sector)) ≡ with_bytes start part sector
lent_back start k part sector is = ap (λ (l : List ℕ). take start sector ++ (part ++ l)) (drop-drop k start sector ∙ ap (λ (n : ℕ). drop (start + n) sector) is)
