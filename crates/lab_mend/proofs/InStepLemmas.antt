-- Readers that are read in step.
use Rattle.std.proofs.Common.{◌≡◌, ◌≢◌, ◌⊎◌, inl, inr, ℕ, suc, ◌+◌, ◌-◌, ◌*◌, ◌<◌, ◌≤◌, List, [], ◌++◌, length, get_or, set, map, take, drop, Bool, true, false, Option, Some, None, refl, sym, ap, ◌∙◌, subst, arith, length-append, length-drop}
use Rattle.std.specs.Prelude.{slice_range}
use Rattle.std.specs.Io.KnownBytes.{Consumes, IsAtEnd}
use Rattle.std.proofs.lemmas.Bool.{cases_eq}
use Rattle.std.proofs.Math.Nat.{mul-le-mul_right}
use Rattle.std.proofs.lemmas.List.{length-set, length-map, map-set, get_or-map, get_or-set_same, get_or-set_other, take_at, drop_at, drop-drop}
use Rattle.std.proofs.lemmas.Slice.{between_is, take-put_mid_below, between-put_mid}
use borrow.Rule.Slice.PartMut.{put_mid}
use Rattle.image_check.specs.declared.page_reader.Cut.{Cut}
use Rattle.image_check.specs.declared.page_reader.Cut.TheVariants.{Ended, Failed}
use Rattle.lab_dump.specs.declared.pass.PassFault.{PassFault}
use Rattle.lab_dump.specs.declared.pass.PassFault.TheVariants as fault
use Rattle.lab_dump.specs.Scan.{HasMore, ReadsFewer, Tell}
use Rattle.lab_mend.specs.Pages.{piece_at}
use Rattle.lab_mend.specs.InStep.{IsAt, AreAt, AreBetween, AreRead, CutAt, LongAt}

-- ---- one reader

at_least : (file : List ℕ) (at : ℕ) (ys zs : List ℕ) → drop at file ≡ ys ++ zs → at ≤ length file → at + length ys ≤ length file
at_least file at ys zs e within = let size = ap length e in omega (arith, length-drop at file, length-append ys zs)

-- it read this piece more
pub read_on : (known after : Option (List ℕ)) (file : List ℕ) (at : ℕ) (ys : List ℕ) → IsAt known file at → Consumes known after ys → IsAt after file (at + length ys)
read_on None after file at ys h reads = absurd (let e = h.left in cc)
read_on (Some xs) None file at ys h reads = absurd reads
read_on (Some xs) (Some zs) file at ys h reads =
    let all : drop at file ≡ ys ++ zs = (let e = h.left in let same : xs ≡ drop at file = cc in sym same ∙ reads) in
    record {
      left = ap Some (sym (sym (drop-drop (length ys) at file) ∙ (ap (drop (length ys)) all ∙ drop_at ys zs (length ys) refl)));
      within = at_least file at ys zs all h.within;
    }

-- the piece is what its file has there
pub read_is : (known after : Option (List ℕ)) (file : List ℕ) (at : ℕ) (ys : List ℕ) → IsAt known file at → Consumes known after ys → ys ≡ slice_range file at (at + length ys)
read_is None after file at ys h reads = absurd (let e = h.left in cc)
read_is (Some xs) None file at ys h reads = absurd reads
read_is (Some xs) (Some zs) file at ys h reads =
    let all : drop at file ≡ ys ++ zs = (let e = h.left in let same : xs ≡ drop at file = cc in sym same ∙ reads) in
    let count : at + length ys - at ≡ length ys = omega arith in
    sym (ap (λ n. take n (drop at file)) count ∙ (ap (take (length ys)) all ∙ take_at ys zs (length ys) refl))

ended_early : (known after : Option (List ℕ)) (file : List ℕ) (at size : ℕ) (ys : List ℕ) → IsAt known file at → Consumes known after ys → length ys < size → IsAtEnd after → length file < at + size
ended_early None after file at size ys h reads few e = absurd (let l = h.left in cc)
ended_early (Some xs) None file at size ys h reads few e = absurd reads
ended_early (Some xs) (Some zs) file at size ys h reads few e =
    let all : drop at file ≡ ys ++ zs = (let l = h.left in let same : xs ≡ drop at file = cc in sym same ∙ reads) in
    let none : length zs ≡ 0 = ap length e in
    let long = ap length all in
    omega (arith, length-drop at file, length-append ys zs)

pub cut_at : (known after : Option (List ℕ)) (files : List (List ℕ)) (i at size : ℕ) (cut : Cut) → i < length files → IsAt known (get_or files i []) at → ReadsFewer size known after cut
    → ((j : ℕ) → j < length files → at ≤ length (get_or files j [])) → ((j : ℕ) → j < i → at + size ≤ length (get_or files j [])) → CutAt files at size i cut
cut_at known after files i at size Ended within h short each earlier = record {
  within = within;
  each = each;
  earlier = earlier;
  short = ended_early known after (get_or files i []) at size short.bytes h short.read short.few short.ends;
}
cut_at known after files i at size Failed within h short each earlier = within

pub at_end : (known : Option (List ℕ)) (file : List ℕ) (at : ℕ) → IsAt known file at → IsAtEnd known → length file ≡ at
at_end None file at h e = absurd (let l = h.left in cc)
at_end (Some xs) file at h e =
    let none : drop at file ≡ [] = (let l = h.left in let same : xs ≡ drop at file = cc in sym same ∙ e) in
    let size = ap length none in
    let within = h.within in
    omega (arith, length-drop at file)

has_more : (known : Option (List ℕ)) (file : List ℕ) (at : ℕ) → IsAt known file at → HasMore known → at < length file
has_more None file at h e = absurd (let l = h.left in cc)
has_more (Some xs) file at h e =
    let same : xs ≡ drop at file = (let l = h.left in cc) in
    let size = ap length same in
    omega (arith, length-drop at file)

pub long_at : (known : Option (List ℕ)) (files : List (List ℕ)) (i at : ℕ) (f : PassFault) → i < length files → IsAt known (get_or files i []) at → ((j : ℕ) → j < length files → at ≤ length (get_or files j []))
    → ((j : ℕ) → j < i → length (get_or files j []) ≡ at) → (f ≡ fault.Source) ⊎ ((f ≡ fault.WrongLength) × HasMore known) → LongAt files at i f
long_at known files i at f within h each earlier (inl e) = subst (LongAt files at i) (sym e) within
long_at known files i at f within h each earlier (inr w) = subst (LongAt files at i) (sym w.0) (record { within = within; each = each; earlier = earlier; long = has_more known (get_or files i []) at h w.1 })

-- ---- what is known of each of a list

pub known_at : {X : Type 0} (f : X → Option (List ℕ)) (xs : List X) (i : ℕ) (d : X) → i < length xs → get_or (map f xs) i None ≡ f (get_or xs i d)
known_at f xs i d l = get_or-map f xs i d None l

pub known_set : {X : Type 0} (f : X → Option (List ℕ)) (xs : List X) (i : ℕ) (y : X) → map f (set xs i y) ≡ set (map f xs) i (f y)
known_set f xs i y = map-set f xs i y

-- the others stay
pub known_other : {X : Type 0} (f : X → Option (List ℕ)) (xs : List X) (i j : ℕ) (y : X) → j ≢ i → get_or (map f (set xs i y)) j None ≡ get_or (map f xs) j None
known_other f xs i j y ne = ap (λ ks. get_or ks j None) (map-set f xs i y) ∙ get_or-set_other (map f xs) i j (f y) None ne

-- one of them that has failed
pub failed_at : {X : Type 0} (f : X → Bool) (xs : List X) (i : ℕ) (y : X) → i < length xs → f y ≡ true → get_or (map f (set xs i y)) i false ≡ true
failed_at f xs i y l e = ap (λ ks. get_or ks i false) (map-set f xs i y) ∙ (get_or-set_same (map f xs) i (f y) false (omega (arith, length-map xs f)) ∙ e)

-- ---- all of them

pub tell_first : (known : List (Option (List ℕ))) (files : List (List ℕ)) → Tell known files → AreAt known files 0
tell_first known files e = record {
  size = ap length e ∙ length-map files Some;
  each = λ i l. record { left = ap (λ ks. get_or ks i None) e ∙ get_or-map Some files i [] None l; within = omega arith };
}

pub between_first : (known : List (Option (List ℕ))) (files : List (List ℕ)) (at size : ℕ) (pieces : List ℕ) → AreAt known files at → AreBetween known files at size pieces 0
between_first known files at size pieces h = record {
  count = h.size;
  read = λ i l. absurd (omega arith);
  are = λ i l. absurd (omega arith);
  unread = λ i le l. h.each i l;
}

-- as many files as readers
pub files_count : {X : Type 0} (f : X → Option (List ℕ)) (xs : List X) (files : List (List ℕ)) (at : ℕ) → AreAt (map f xs) files at → length xs ≡ length files
files_count f xs files at h = sym (length-map xs f) ∙ h.size

-- a reader that was not read yet
pub still_at : {X : Type 0} (f : X → Option (List ℕ)) (xs first : List X) (files : List (List ℕ)) (at i : ℕ) (d : X) → i < length xs → i < length first → get_or (map f xs) i None ≡ get_or (map f first) i None → AreAt (map f first) files at
    → IsAt (f (get_or xs i d)) (get_or files i []) at
still_at f xs first files at i d l m same h =
    let within : i < length files = (let count = files_count f first files at h in omega arith) in
    subst (λ (o : Option (List ℕ)). IsAt o (get_or files i []) at) (sym same ∙ known_at f xs i d l) (h.each i within)

pub piece_room : (i n size : ℕ) → i < n → i * size + size ≤ n * size
piece_room i n size less = let more : suc i * size ≤ n * size = mul-le-mul_right size less in omega (arith, more)

earlier_piece : (pieces ys : List ℕ) (size i j : ℕ) → j < i → i * size ≤ length pieces → piece_at (put_mid (i * size) (i * size + size - i * size) pieces ys) size j ≡ piece_at pieces size j
earlier_piece pieces ys size i j l room =
    let whole : List ℕ = put_mid (i * size) (i * size + size - i * size) pieces ys in
    let before : j * size + size ≤ i * size = piece_room j i size l in
    between_is whole (j * size) (j * size + size)
    ∙ (ap (drop (j * size)) (take-put_mid_below (i * size) (i * size + size - i * size) pieces ys (j * size + size) before room)
    ∙ sym (between_is pieces (j * size) (j * size + size)))

pub between_more : (known : List (Option (List ℕ))) (after : Option (List ℕ)) (files : List (List ℕ)) (at size : ℕ) (pieces ys : List ℕ) (i : ℕ) → AreBetween known files at size pieces i → i < length files
    → Consumes (get_or known i None) after ys → length ys ≡ size → i * size + size ≤ length pieces
    → AreBetween (set known i after) files at size (put_mid (i * size) (i * size + size - i * size) pieces ys) (i + 1)
between_more known after files at size pieces ys i h within reads long room =
    let old : IsAt (get_or known i None) (get_or files i []) at = h.unread i (omega arith) within in
    let inside : i < length known = (let count = h.count in omega arith) in
    let now : get_or (set known i after) i None ≡ after = get_or-set_same known i after None inside in
    let whole : List ℕ = put_mid (i * size) (i * size + size - i * size) pieces ys in
    record {
      count = length-set known i after ∙ h.count;
      read = λ j l. elim (cases_eq j i) [
        | inl same ↦ subst (λ k. IsAt (get_or (set known i after) k None) (get_or files k []) (at + size)) (sym same)
            (subst (λ o. IsAt o (get_or files i []) (at + size)) (sym now) (subst (λ n. IsAt after (get_or files i []) (at + n)) long (read_on (get_or known i None) after (get_or files i []) at ys old reads)))
        | inr ne ↦ subst (λ o. IsAt o (get_or files j []) (at + size)) (sym (get_or-set_other known i j after None ne)) (h.read j (omega arith))
      ];
      are = λ j l. elim (cases_eq j i) [
        | inl same ↦ subst (λ k. piece_at whole size k ≡ slice_range (get_or files k []) at (at + size)) (sym same)
            (between-put_mid (i * size) (i * size + size - i * size) pieces ys (i * size + size) (omega arith) (omega arith)
            ∙ (read_is (get_or known i None) after (get_or files i []) at ys old reads ∙ ap (λ n. slice_range (get_or files i []) at (at + n)) long))
        | inr ne ↦ earlier_piece pieces ys size i j (omega arith) (omega arith) ∙ h.are j (omega arith)
      ];
      unread = λ j le l. subst (λ o. IsAt o (get_or files j []) at) (sym (get_or-set_other known i j after None (λ e. (omega arith)))) (h.unread j (omega arith) l);
    }

pub between_all : (known : List (Option (List ℕ))) (files : List (List ℕ)) (at size : ℕ) (pieces : List ℕ) (n : ℕ) → n ≡ length known → AreBetween known files at size pieces n → AreRead known files at size pieces
between_all known files at size pieces n all h = record {
  now = record { size = h.count; each = λ i l. h.read i (let count = h.count in omega arith) };
  are = λ i l. h.are i (let count = h.count in omega arith);
}
