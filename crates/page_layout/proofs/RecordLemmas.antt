-- The spare bytes of a record, its seal, and the page that is sound by them.
use Rattle.std.proofs.Common.{◌≡◌, ◌⊎◌, inl, inr, get_or, ℕ, zero, suc, ◌-◌, Bool, true, false, if◌then◌else◌, Option, List, [], ◌∷◌, ◌++◌, length}
use Rattle.std.proofs.Common.{take, drop, replicate, Some, None, refl, ap, sym, ◌∙◌, subst, arith, length-append, append_assoc}
use Rattle.std.proofs.Math.Seq.{take-length}
use Rattle.std.proofs.lemmas.List.{take_at, drop_at, drop-replicate, length-take-le, length-replicate}
use Rattle.std.proofs.lemmas.List.Sums.{AllPass-from_list_all, list_all-from_AllPass}
use Rattle.std.proofs.lemmas.Bool.{and_from, and_parts, and_left, and_right, or_cases, cases_Bool, cases_eq, eqb-true, eq-eqb, ne_eqb, le-leb, leb-true, cond-true, cond-false}
use Rattle.std.proofs.lemmas.Slice.Eq.{bytes_eq-Decides}
use Rattle.std.specs.Prelude.{slice_range, slice_index, option_map, ◌&&◌, ◌||◌, ◌==◌, nat_le, ◌+◌, ◌<◌, ◌≤◌}
use Rattle.std.specs.List.{list_all}
use Rattle.std.specs.Str.{bytes_eq}
use Rattle.byteorder.specs.Endian.{little_number}
use Rattle.byteorder.specs.Numbers.{little_number-reads_back}
use Rattle.sha2.specs.Sha256.{sha256}
use borrow.Rule.Slice.PartMut.{put_mid}
use Rattle.page_layout.specs.declared.record.Record.{Record}
use Rattle.page_layout.specs.declared.record.Kind.{Kind}
use Rattle.page_layout.specs.declared.record.Kind.TheVariants as kind
use Rattle.page_layout.specs.Page.{page}
use Rattle.page_layout.specs.Sound.{AreFill, SpellsRecord, IsSound, IsSoundV1, IsSoundV2, hash_of, seal_size, seal_end, is_erased_page, kind_from, code_of_kind, is_filled}
use Rattle.page_layout.specs.Sound.{has_version, has_form, has_seal, record_in, spelled, record_of, version_of, head_of, FitsWidths, IsRoomFor}
use Rattle.page_layout.specs.declared.record.Key.{Key}
use Rattle.page_layout.specs.Page.{Page}
use Rattle.page_layout.specs.Newest.{sequence_of}
use Rattle.page_layout.proofs.NewestLemmas.{sequence_of-none}

-- a head and a seal written over the beginning of a filled area
pub head_then_seal : (head seal : List ℕ) (n size : ℕ) → length head ≡ 24 → length seal ≡ size → put_mid 24 size (head ++ drop 24 (replicate n 255)) seal ≡ head ++ (seal ++ replicate (n - (24 + size)) 255)
head_then_seal head seal n size h k =
    rw (take_at head (drop 24 (replicate n 255)) 24 h, drop_at head (drop 24 (replicate n 255)) 24 h, drop-replicate {X = ℕ} 24 n 255, drop-replicate {X = ℕ} size (n - 24) 255)
    (let e : n - 24 - size ≡ n - (24 + size) = omega arith in rw e)

pub is_filled-replicate : (n : ℕ) → is_filled (replicate n 255) ≡ true
unfolding is_filled
is_filled-replicate zero = refl
is_filled-replicate (suc n) = is_filled-replicate n

-- ---- erased pages

filled_at : (xs : List ℕ) (i : ℕ) → is_filled xs ≡ true → (get_or xs i 0 ≡ 255) ⊎ (get_or xs i 0 ≡ 0)
unfolding is_filled
filled_at [] i filled = inr refl
filled_at (x ∷ xs) zero filled = inl (eqb-true x 255 (and_parts (x == 255) (list_all (λ b. b == 255) xs) filled).0)
filled_at (x ∷ xs) (suc i) filled = filled_at xs i (and_parts (x == 255) (list_all (λ b. b == 255) xs) filled).1

filled_no_version : (spare : List ℕ) → is_filled spare ≡ true → has_version spare ≡ false
filled_no_version spare filled = elim (filled_at spare 2 filled) [
  | inl full ↦ rw full refl
  | inr none ↦ rw none refl
]

-- a page that is erased has no record
pub erased_no_record : (p : Page) → is_erased_page p ≡ true → record_of p ≡ None
unfolding record_of
erased_no_record p erased =
    let spare : List ℕ = p.spare in
    let filled : is_filled spare ≡ true = (and_parts (is_filled p.body) (is_filled spare) erased).1 in
    let no_form : has_form spare ≡ false =
    and_left (is_filled (take 2 spare) && has_version spare && is_filled (slice_range spare 20 24)) (is_filled (slice_range spare (seal_end spare) (length spare)))
    (and_left (is_filled (take 2 spare) && has_version spare) (is_filled (slice_range spare 20 24))
    (and_right (is_filled (take 2 spare)) (has_version spare) (filled_no_version spare filled))) in
    cond-false (has_form spare && has_seal p) (option_map (record_in spare) (kind_from (slice_index spare 3))) None
    (and_left (has_form spare) (has_seal p) no_form)

-- ---- records and their bytes

kind_from-code_of : (k : Kind) → kind_from (code_of_kind k) ≡ Some k
kind_from-code_of kind.Sector = refl
kind_from-code_of kind.Trim = refl
kind_from-code_of kind.Translation = refl
kind_from-code_of kind.Table = refl

made : Kind → ℕ → ℕ → ℕ → Record
made k n s w = record { kind = k; number = n; sequence = s; wear = w }

same_record : (k : Kind) (n n' s s' w w' : ℕ) → n ≡ n' → s ≡ s' → w ≡ w' → made k n s w ≡ made k n' s' w'
same_record k n n' s s' w w' a b c = cc

record_in-head_of : (v : ℕ) (r : Record) (rest : List ℕ) → FitsWidths r → record_in (head_of v r ++ rest) r.kind ≡ r
unfolding made
record_in-head_of v r rest fits =
    let n : little_number 4 (slice_range (head_of v r ++ rest) 4 8) ≡ r.number = little_number-reads_back 4 r.number [] fits.number in
    let s : little_number 8 (slice_range (head_of v r ++ rest) 8 16) ≡ r.sequence = little_number-reads_back 8 r.sequence [] fits.sequence in
    let w : little_number 4 (slice_range (head_of v r ++ rest) 16 20) ≡ r.wear = little_number-reads_back 4 r.wear [] fits.wear in
    same_record r.kind
    (little_number 4 (slice_range (head_of v r ++ rest) 4 8)) r.number
    (little_number 8 (slice_range (head_of v r ++ rest) 8 16)) r.sequence
    (little_number 4 (slice_range (head_of v r ++ rest) 16 20)) r.wear n s w

tail_of : (head seal tail : List ℕ) (size : ℕ) → length head ≡ 24 → length seal ≡ size → slice_range (head ++ (seal ++ tail)) (24 + size) (length (head ++ (seal ++ tail))) ≡ tail
tail_of head seal tail size h k =
    let both : length (head ++ seal) ≡ 24 + size = omega (arith, length-append head seal) in
    let left : length (head ++ (seal ++ tail)) - (24 + size) ≡ length tail = omega (arith, length-append head (seal ++ tail), length-append seal tail) in
    rw (left, ← append_assoc head seal tail, drop_at (head ++ seal) tail (24 + size) both, take-length tail)

seal_of : (head seal tail : List ℕ) (size : ℕ) → length head ≡ 24 → length seal ≡ size → slice_range (head ++ (seal ++ tail)) 24 (24 + size) ≡ seal
seal_of head seal tail size h k =
    let left : 24 + size - 24 ≡ size = omega arith in
    rw (left, drop_at head (seal ++ tail) 24 h, take_at seal tail size k)

-- a version that there is room for, as the reader tells it
room_named : (v n : ℕ) → IsRoomFor v n → ((v == 1) || ((v == 2) && nat_le 40 n)) ≡ true
room_named v n (inl one) = rw one.0 refl
room_named v n (inr two) = rw two.0 (le-leb 40 n two.1)

form_of : (v : ℕ) (r : Record) (seal : List ℕ) (n : ℕ) → length seal ≡ seal_size v → IsRoomFor v (length (head_of v r ++ (seal ++ replicate n 255))) → has_form (head_of v r ++ (seal ++ replicate n 255)) ≡ true
unfolding is_filled
form_of v r seal n k room =
    let P : List ℕ → Type 0 = λ t. is_filled t ≡ true in
    let spare : List ℕ = head_of v r ++ (seal ++ replicate n 255) in
    and_from (has_version spare && true) (is_filled (slice_range spare (24 + seal_size v) (length spare)))
    (and_from (has_version spare) true (room_named v (length spare) room) refl)
    (subst P (sym (tail_of (head_of v r) seal (replicate n 255) (seal_size v) refl k)) (is_filled-replicate n))

bytes_eq-same : (xs : List ℕ) → bytes_eq xs xs ≡ true
bytes_eq-same xs = (bytes_eq-Decides xs xs).1 refl

has_seal-head_of : (v : ℕ) (r : Record) (body tail : List ℕ) (seal : List ℕ) → length seal ≡ seal_size v → seal ≡ take (seal_size v) (sha256 (body ++ head_of v r)) → has_seal (page body (head_of v r ++ (seal ++ tail))) ≡ true
has_seal-head_of v r body tail seal k is =
    rw (seal_of (head_of v r) seal tail (seal_size v) refl k, ← is) (bytes_eq-same seal)

-- what `write_version` writes is a sound page with its record
pub sound-head_of : (v : ℕ) (r : Record) (body seal : List ℕ) (n : ℕ) → FitsWidths r → length seal ≡ seal_size v
    → seal ≡ take (seal_size v) (sha256 (body ++ head_of v r)) → IsRoomFor v (length (head_of v r ++ (seal ++ replicate n 255)))
    → record_of (page body (head_of v r ++ (seal ++ replicate n 255))) ≡ Some r
unfolding record_of
sound-head_of v r body seal n fits k is room =
    let spare : List ℕ = head_of v r ++ (seal ++ replicate n 255) in
    let form : has_form spare ≡ true = form_of v r seal n k room in
    let sealed : has_seal (page body spare) ≡ true = has_seal-head_of v r body (replicate n 255) seal k is in
    let some : option_map (record_in spare) (kind_from (code_of_kind r.kind)) ≡ Some r =
    rw (kind_from-code_of r.kind) (ap Some (record_in-head_of v r (seal ++ replicate n 255) fits)) in
    cond-true (has_form spare && has_seal (page body spare)) (option_map (record_in spare) (kind_from (code_of_kind r.kind))) None (and_from (has_form spare) (has_seal (page body spare)) form sealed) ∙ some

-- the two as the code has them, step by step
pub written_over : (head seal filled first second : List ℕ) (n size : ℕ) → length head ≡ 24 → length seal ≡ size → filled ≡ replicate n 255 → first ≡ head → second ≡ seal → put_mid 24 size (first ++ drop 24 filled) second ≡ head ++ (seal ++ replicate (n - (24 + size)) 255)
written_over head seal filled first second n size h k f a b =
    rw (f, a, b) (head_then_seal head seal n size h k)

seal_size-le : (v : ℕ) → seal_size v ≤ 32
seal_size-le v = elim (cases_eq v 2) [
  | inl two ↦ rw two (omega arith)
  | inr other ↦ rw (ne_eqb v 2 other) (omega arith)
]

room_for_seal : (v n : ℕ) → IsRoomFor v n → 24 + seal_size v ≤ n
room_for_seal v n (inl one) = rw one.0 one.1
room_for_seal v n (inr two) = rw two.0 two.1

seal_length : (v size : ℕ) (hash : List ℕ) → size ≡ seal_size v → length hash ≡ 32 → length (take size hash) ≡ seal_size v
seal_length v size hash is long =
    let most : seal_size v ≤ length hash = omega (arith, seal_size-le v, long) in
    ap (λ k. length (take k hash)) is ∙ length-take-le (seal_size v) hash most

-- what is written has the length that was there
as_long : (head seal : List ℕ) (n size : ℕ) → length head ≡ 24 → length seal ≡ size → 24 + size ≤ n → length (head ++ (seal ++ replicate (n - (24 + length seal)) 255)) ≡ n
as_long head seal n size h k room =
    omega (arith, length-append head (seal ++ replicate (n - (24 + length seal)) 255), length-append seal (replicate (n - (24 + length seal)) 255), length-replicate {A = ℕ} (n - (24 + length seal)) 255)

pub sound_written : (v : ℕ) (r : Record) (body head hash spare : List ℕ) (n size : ℕ) → FitsWidths r → head ≡ head_of v r → hash ≡ sha256 (body ++ head) → length hash ≡ 32 → size ≡ seal_size v
    → spare ≡ head ++ (take size hash ++ replicate (n - (24 + length (take size hash))) 255) → IsRoomFor v n → record_of (page body spare) ≡ Some r
sound_written v r body head hash spare n size fits h is long s e room =
    let m : ℕ = n - (24 + length (take size hash)) in
    let seal : List ℕ = take size hash in
    let k : length seal ≡ seal_size v = seal_length v size hash s long in
    let of_hash : seal ≡ take (seal_size v) (sha256 (body ++ head_of v r)) = ap (λ j. take j hash) s ∙ ap (take (seal_size v)) (is ∙ ap (λ x. sha256 (body ++ x)) h) in
    let same : spare ≡ head_of v r ++ (seal ++ replicate m 255) = e ∙ ap (λ x. x ++ (seal ++ replicate m 255)) h in
    let size : length (head_of v r ++ (seal ++ replicate m 255)) ≡ n = as_long (head_of v r) seal n (seal_size v) refl k (room_for_seal v n room) in
    ap (λ x. record_of (page body x)) same ∙ sound-head_of v r body seal m fits k of_hash (subst (IsRoomFor v) (sym size) room)

-- and byte 2 is its version
pub version_written : (v : ℕ) (r : Record) (body head spare : List ℕ) (rest : List ℕ) → head ≡ head_of v r → spare ≡ head ++ rest → record_of (page body spare) ≡ Some r → version_of (page body spare) ≡ Some v
unfolding version_of
version_written v r body head spare rest h e found =
    ap (option_map (λ x. slice_index spare 2)) found ∙ ap (λ x. Some (slice_index x 2)) (e ∙ ap (λ x. x ++ rest) h)

-- ---- the record that the spare area spells, and the seal

sealed : (form seal : Bool) (o : Option Record) → (if form && seal then o else None) ≡ (if seal then (if form then o else None) else None)
sealed true true o = refl
sealed true false o = refl
sealed false true o = refl
sealed false false o = refl

-- a page is sound where its spare area spells a record and the seal agrees
pub sound_is : (p : Page) → record_of p ≡ (if has_seal p then spelled p.spare else None)
unfolding record_of spelled
sound_is p = sealed (has_form p.spare) (has_seal p) (option_map (record_in p.spare) (kind_from (slice_index p.spare 3)))

sequence_if : (key : Key) (seal : Bool) (o : Option Record) → sequence_of key (if seal then o else None) ≡ (if seal then sequence_of key o else None)
sequence_if key true o = refl
sequence_if key false o = sequence_of-none key

pub sequence_sealed : (key : Key) (p : Page) → sequence_of key (record_of p) ≡ (if has_seal p then sequence_of key (spelled p.spare) else None)
sequence_sealed key p = ap (sequence_of key) (sound_is p) ∙ sequence_if key (has_seal p) (spelled p.spare)

none_if : {A : Type 0} (seal : Bool) (o : Option A) → o ≡ None → (if seal then o else None) ≡ None
none_if true o e = e
none_if false o e = refl

-- the same, as the code has the facts
pub unspelled : (body spare : List ℕ) → spelled spare ≡ None → record_of (page body spare) ≡ None
unspelled body spare none = sound_is (page body spare) ∙ none_if (has_seal (page body spare)) (spelled spare) none

pub unsealed : (body spare : List ℕ) → has_seal (page body spare) ≡ false → record_of (page body spare) ≡ None
unsealed body spare e = sound_is (page body spare) ∙ ap (λ b. if b then spelled spare else None) e

pub sealed_spelled : (body spare : List ℕ) → has_seal (page body spare) ≡ true → record_of (page body spare) ≡ spelled spare
sealed_spelled body spare e = sound_is (page body spare) ∙ ap (λ b. if b then spelled spare else None) e

-- a page whose spare area does not spell the key has no sequence of it, whatever its seal
pub sequence_unspelled : (key : Key) (body spare : List ℕ) → sequence_of key (spelled spare) ≡ None → sequence_of key (record_of (page body spare)) ≡ None
sequence_unspelled key body spare none = sequence_sealed key (page body spare) ∙ none_if (has_seal (page body spare)) (sequence_of key (spelled spare)) none

pub sequence_of_unspelled : (key : Key) (body spare : List ℕ) → spelled spare ≡ None → sequence_of key (record_of (page body spare)) ≡ None
sequence_of_unspelled key body spare none = ap (sequence_of key) (unspelled body spare none) ∙ sequence_of-none key

pub sequence_unsealed : (key : Key) (body spare : List ℕ) → has_seal (page body spare) ≡ false → sequence_of key (record_of (page body spare)) ≡ None
sequence_unsealed key body spare e = ap (sequence_of key) (unsealed body spare e) ∙ sequence_of-none key

-- ---- a page's one record, and what it says of the bytes

pub filled_all : (xs : List ℕ) → is_filled xs ≡ true → AreFill xs
unfolding is_filled
filled_all xs e = λ k d l. eqb-true (get_or xs k d) 255 (AllPass-from_list_all (λ b. b == 255) xs e k d l)

pub all_filled : (xs : List ℕ) → AreFill xs → is_filled xs ≡ true
unfolding is_filled
all_filled xs h = list_all-from_AllPass (λ b. b == 255) xs (λ k d l. eq-eqb (get_or xs k d) 255 (h k d l))

-- the code of a kind that a code gives is that code
kind_from-is : (code : ℕ) (k : Kind) → kind_from code ≡ Some k → code ≡ code_of_kind k
kind_from-is code k e = elim (cases_eq code 1) [
  | inl one ↦ let found : Some kind.Sector ≡ Some k = rw one at e in let same : kind.Sector ≡ k = cc in one ∙ ap code_of_kind same
  | inr not_one ↦ elim (cases_eq code 2) [
    | inl two ↦ let found : Some kind.Trim ≡ Some k = rw two at e in let same : kind.Trim ≡ k = cc in two ∙ ap code_of_kind same
    | inr not_two ↦ elim (cases_eq code 3) [
      | inl three ↦ let found : Some kind.Translation ≡ Some k = rw three at e in let same : kind.Translation ≡ k = cc in three ∙ ap code_of_kind same
      | inr not_three ↦ elim (cases_eq code 4) [
        | inl four ↦ let found : Some kind.Table ≡ Some k = rw four at e in let same : kind.Table ≡ k = cc in four ∙ ap code_of_kind same
        | inr not_four ↦
            let none : None ≡ Some k = rw (ne_eqb code 1 not_one, ne_eqb code 2 not_two, ne_eqb code 3 not_three, ne_eqb code 4 not_four) at e in
            absurd (cc)
      ]
    ]
  ]
]

-- the form, part by part
record HasForm (spare : List ℕ) : Type 0 where
  pub before_version : AreFill (take 2 spare)
  pub version : has_version spare ≡ true
  pub before_seal : AreFill (slice_range spare 20 24)
  pub after_seal : AreFill (slice_range spare (seal_end spare) (length spare))

form_parts : (spare : List ℕ) → has_form spare ≡ true → HasForm spare
form_parts spare e =
    let last = and_parts (is_filled (take 2 spare) && has_version spare && is_filled (slice_range spare 20 24)) (is_filled (slice_range spare (seal_end spare) (length spare))) e in
    let third = and_parts (is_filled (take 2 spare) && has_version spare) (is_filled (slice_range spare 20 24)) last.0 in
    let first = and_parts (is_filled (take 2 spare)) (has_version spare) third.0 in
    record {
      before_version = filled_all (take 2 spare) first.0;
      version = first.1;
      before_seal = filled_all (slice_range spare 20 24) third.1;
      after_seal = filled_all (slice_range spare (seal_end spare) (length spare)) last.1;
    }

form_from : (spare : List ℕ) → HasForm spare → has_form spare ≡ true
form_from spare h =
    and_from (is_filled (take 2 spare) && has_version spare && is_filled (slice_range spare 20 24)) (is_filled (slice_range spare (seal_end spare) (length spare)))
    (and_from (is_filled (take 2 spare) && has_version spare) (is_filled (slice_range spare 20 24))
    (and_from (is_filled (take 2 spare)) (has_version spare) (all_filled (take 2 spare) h.before_version) h.version)
    (all_filled (slice_range spare 20 24) h.before_seal))
    (all_filled (slice_range spare (seal_end spare) (length spare)) h.after_seal)

-- the versions that byte 2 may name
named_room : (v n : ℕ) → ((v == 1) || ((v == 2) && nat_le 40 n)) ≡ true → (v ≡ 1) ⊎ ((v ≡ 2) × (40 ≤ n))
named_room v n e = elim (or_cases (v == 1) ((v == 2) && nat_le 40 n) e) [
  | inl one ↦ inl (eqb-true v 1 one)
  | inr two ↦
      let parts = and_parts (v == 2) (nat_le 40 n) two in
      inr (eqb-true v 2 parts.0, leb-true 40 n parts.1)
]

-- a page of the form, with a seal that agrees, is sound in the version that its byte 2 names
by_version : (p : Page) (r : Record) → SpellsRecord p.spare r → HasForm p.spare → slice_range p.spare 24 (seal_end p.spare) ≡ take (seal_size (slice_index p.spare 2)) (hash_of p) → IsSound p r
by_version p r spells form sealed = elim (named_room (slice_index p.spare 2) (length p.spare) form.version) [
  | inl one ↦
      let Seal : ℕ → Type 0 = λ v. slice_range p.spare 24 (24 + seal_size v) ≡ take (seal_size v) (hash_of p) in
      let Fill : ℕ → Type 0 = λ v. AreFill (slice_range p.spare (24 + seal_size v) (length p.spare)) in
      inl (record { spells = spells; version = one; sealed = subst Seal one sealed; after_seal = subst Fill one form.after_seal })
  | inr two ↦
      let Seal : ℕ → Type 0 = λ v. slice_range p.spare 24 (24 + seal_size v) ≡ take (seal_size v) (hash_of p) in
      let Fill : ℕ → Type 0 = λ v. AreFill (slice_range p.spare (24 + seal_size v) (length p.spare)) in
      inr (record { room = two.1; spells = spells; version = two.0; sealed = subst Seal two.0 sealed; after_seal = subst Fill two.0 form.after_seal })
]

pub is_sound : (p : Page) (r : Record) → record_of p ≡ Some r → IsSound p r
unfolding record_of
is_sound p r e = elim (cases_Bool (has_form p.spare && has_seal p)) [
  | inl both ↦
      let parts = and_parts (has_form p.spare) (has_seal p) both in
      let found : option_map (record_in p.spare) (kind_from (slice_index p.spare 3)) ≡ Some r =
      sym (cond-true (has_form p.spare && has_seal p) (option_map (record_in p.spare) (kind_from (slice_index p.spare 3))) None both) ∙ e in
      of_kind (form_parts p.spare parts.0) ((bytes_eq-Decides (slice_range p.spare 24 (seal_end p.spare)) (take (seal_size (slice_index p.spare 2)) (hash_of p))).0 parts.1) (kind_from (slice_index p.spare 3)) refl found
  | inr fails ↦
      let none : None ≡ Some r = sym (cond-false (has_form p.spare && has_seal p) (option_map (record_in p.spare) (kind_from (slice_index p.spare 3))) None fails) ∙ e in
      absurd (cc)
]
  where
    of_kind : HasForm p.spare → slice_range p.spare 24 (seal_end p.spare) ≡ take (seal_size (slice_index p.spare 2)) (hash_of p) → (o : Option Kind) → kind_from (slice_index p.spare 3) ≡ o → option_map (record_in p.spare) o ≡ Some r → IsSound p r
    of_kind form sealed None code found = absurd (let none : None ≡ Some r = found in cc)
    of_kind form sealed (Some k) code found =
        let same : record_in p.spare k ≡ r = cc in
        let spells : SpellsRecord p.spare r = record {
          before_version = form.before_version;
          kind_code = kind_from-is (slice_index p.spare 3) k code ∙ ap (λ z. code_of_kind z.kind) same;
          number = ap (λ z. z.number) same;
          sequence = ap (λ z. z.sequence) same;
          wear = ap (λ z. z.wear) same;
          before_seal = form.before_seal;
        } in
        by_version p r spells form sealed

-- a page that says a record, of the form and with a seal that agrees
found_by : (p : Page) (r : Record) → SpellsRecord p.spare r → has_version p.spare ≡ true → AreFill (slice_range p.spare (seal_end p.spare) (length p.spare))
    → slice_range p.spare 24 (seal_end p.spare) ≡ take (seal_size (slice_index p.spare 2)) (hash_of p) → record_of p ≡ Some r
unfolding record_of made
found_by p r s version after_seal agrees =
    let form : has_form p.spare ≡ true = form_from p.spare (record { before_version = s.before_version; version = version; before_seal = s.before_seal; after_seal = after_seal }) in
    let sealed : has_seal p ≡ true = (bytes_eq-Decides (slice_range p.spare 24 (seal_end p.spare)) (take (seal_size (slice_index p.spare 2)) (hash_of p))).1 agrees in
    let code : kind_from (slice_index p.spare 3) ≡ Some r.kind = ap kind_from s.kind_code ∙ kind_from-code_of r.kind in
    let same : record_in p.spare r.kind ≡ r =
    same_record r.kind (little_number 4 (slice_range p.spare 4 8)) r.number (little_number 8 (slice_range p.spare 8 16)) r.sequence (little_number 4 (slice_range p.spare 16 20)) r.wear s.number s.sequence s.wear in
    cond-true (has_form p.spare && has_seal p) (option_map (record_in p.spare) (kind_from (slice_index p.spare 3))) None (and_from (has_form p.spare) (has_seal p) form sealed)
    ∙ (ap (option_map (record_in p.spare)) code ∙ ap Some same)

named_1 : (spare : List ℕ) → slice_index spare 2 ≡ 1 → has_version spare ≡ true
named_1 spare one = rw one refl

named_2 : (spare : List ℕ) → slice_index spare 2 ≡ 2 → 40 ≤ length spare → has_version spare ≡ true
named_2 spare two room = rw two (le-leb 40 (length spare) room)

pub sound_from : (p : Page) (r : Record) → IsSound p r → record_of p ≡ Some r
sound_from p r (inl x) =
    let Seal : ℕ → Type 0 = λ v. slice_range p.spare 24 (24 + seal_size v) ≡ take (seal_size v) (hash_of p) in
    let Fill : ℕ → Type 0 = λ v. AreFill (slice_range p.spare (24 + seal_size v) (length p.spare)) in
    found_by p r x.spells (named_1 p.spare x.version) (subst Fill (sym x.version) x.after_seal) (subst Seal (sym x.version) x.sealed)
sound_from p r (inr x) =
    let Seal : ℕ → Type 0 = λ v. slice_range p.spare 24 (24 + seal_size v) ≡ take (seal_size v) (hash_of p) in
    let Fill : ℕ → Type 0 = λ v. AreFill (slice_range p.spare (24 + seal_size v) (length p.spare)) in
    found_by p r x.spells (named_2 p.spare x.version x.room) (subst Fill (sym x.version) x.after_seal) (subst Seal (sym x.version) x.sealed)

-- ---- the version of a page

-- no page is sound in both versions
pub one_version : (p : Page) (r s : Record) → IsSoundV1 p r → IsSoundV2 p s → ⊥
one_version p r s one two = absurd (let same : 1 ≡ 2 = sym one.version ∙ two.version in cc)

pub version_is : (p : Page) (r : Record) → record_of p ≡ Some r → version_of p ≡ Some (slice_index p.spare 2)
unfolding version_of
version_is p r found = ap (option_map (λ x. slice_index p.spare 2)) found

pub version_1 : (p : Page) (r : Record) → IsSoundV1 p r → version_of p ≡ Some 1
version_1 p r sound = version_is p r (sound_from p r (inl sound)) ∙ ap Some sound.version

pub version_2 : (p : Page) (r : Record) → IsSoundV2 p r → version_of p ≡ Some 2
version_2 p r sound = version_is p r (sound_from p r (inr sound)) ∙ ap Some sound.version

pub is_version_1 : (p : Page) (r : Record) → record_of p ≡ Some r → version_of p ≡ Some 1 → IsSoundV1 p r
is_version_1 p r found version = elim (is_sound p r found) [
  | inl one ↦ one
  | inr two ↦ absurd (let both : Some 2 ≡ Some 1 = sym (version_2 p r two) ∙ version in cc)
]

pub is_version_2 : (p : Page) (r : Record) → record_of p ≡ Some r → version_of p ≡ Some 2 → IsSoundV2 p r
is_version_2 p r found version = elim (is_sound p r found) [
  | inl one ↦ absurd (let both : Some 1 ≡ Some 2 = sym (version_1 p r one) ∙ version in cc)
  | inr two ↦ two
]

-- a short spare area has no room for version 2
pub short_spare : (p : Page) (r : Record) → length p.spare < 40 → IsSound p r → IsSoundV1 p r
short_spare p r short (inl one) = one
short_spare p r short (inr two) = absurd (omega (arith, two.room, short))

pub no_version : (p : Page) → version_of p ≡ None → record_of p ≡ None
unfolding version_of
no_version p none = of_record (record_of p) none
  where
    of_record : (o : Option Record) → option_map (λ x. slice_index p.spare 2) o ≡ None → o ≡ None
    of_record None e = refl
    of_record (Some r) e = absurd (let some : Some (slice_index p.spare 2) ≡ None = e in cc)

pub unsound_no_version : (p : Page) → record_of p ≡ None → version_of p ≡ None
unfolding version_of
unsound_no_version p none = ap (option_map (λ x. slice_index p.spare 2)) none

-- an erased page is one of FFh bytes alone
pub erased_all : (p : Page) → is_erased_page p ≡ true → AreFill p.body × AreFill p.spare
erased_all p e =
    let both = and_parts (is_filled p.body) (is_filled p.spare) e in
    (filled_all p.body both.0, filled_all p.spare both.1)

pub all_erased : (p : Page) → AreFill p.body × AreFill p.spare → is_erased_page p ≡ true
all_erased p h = and_from (is_filled p.body) (is_filled p.spare) (all_filled p.body h.0) (all_filled p.spare h.1)
