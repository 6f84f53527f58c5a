-- What a sound page's spare area says of the hash of its bytes.
use Rattle.std.proofs.Common.{◌≡◌, ◌⊎◌, inl, inr, ℕ, ◌+◌, ◌-◌, ◌/◌, ◌%◌, ◌^◌, ◌<◌, ◌≤◌, true, List, ◌++◌, length, get_or, take, drop, Option, Some, None, refl, sym, ap, ◌∙◌, subst, arith}
use Rattle.std.specs.Prelude.{is_some, bit_xor}
use Rattle.std.proofs.lemmas.List.{take-append-drop, drop-take, take-take, get_or-take, length-take-le, length-drop, take_all, take-set-le}
use Rattle.std.proofs.lemmas.List.Elements.{All-get_or}
use Rattle.std.specs.Str.{bytes_eq}
use Rattle.std.proofs.lemmas.Slice.Eq.{bytes_eq-Decides}
use Rattle.sha2.specs.Sha256.{sha256}
use Rattle.sha2.specs.Hashers.{Holds256}
use Rattle.page_layout.specs.declared.record.Record.{Record}
use Rattle.page_layout.specs.Sound.{record_of, SpellsRecord, IsSound}
use Rattle.page_layout.proofs.RecordLemmas as records
use Rattle.lab_dump.specs.PageBytes.{is_sound, page_from_bytes}
use Rattle.lab_mend.specs.Bits.{turned_bytes}
use Rattle.lab_mend.specs.Seal.{HasHashedPrefix, begins_as_record}
use Rattle.lab_mend.specs.declared.seal.Prefix.{Prefix}

-- a piece behind another one
pub pieces : (i n : ℕ) (xs : List ℕ) → i ≤ n → take i xs ++ take (n - i) (drop i xs) ≡ take n xs
pieces i n xs le =
    let whole : i + (n - i) ≡ n = omega arith in
    let back : take (n - i) (drop i xs) ≡ drop i (take n xs) = sym (drop-take i (n - i) xs) ∙ ap (λ k. drop i (take k xs)) whole in
    let front : take i xs ≡ take i (take n xs) = sym (take-take i n xs le) in
    ap (λ b. take i xs ++ b) back ∙ (ap (λ f. f ++ drop i (take n xs)) front ∙ take-append-drop i (take n xs))

some_of : (o : Option Record) → is_some o ≡ true → (r : Record) × (o ≡ Some r)
some_of None e = absurd (cc)
some_of (Some r) e = (r, refl)

-- its spare area begins as that of a record, and the seal with the first bytes of the hash
pub record BeginsSound (size : ℕ) (bytes : List ℕ) : Type 0 where
  pub first : get_or (drop size bytes) 0 0 ≡ 255
  pub second : get_or (drop size bytes) 1 0 ≡ 255
  pub version : (get_or (drop size bytes) 2 0 ≡ 1) ⊎ (get_or (drop size bytes) 2 0 ≡ 2)
  pub sealed : take 8 (drop 24 (drop size bytes)) ≡ take 8 (sha256 (take size bytes ++ take 24 (drop size bytes)))

filled : (spare : List ℕ) (r : Record) (i : ℕ) → 2 ≤ length spare → i < 2 → SpellsRecord spare r → get_or spare i 0 ≡ 255
filled spare r i room l spells =
    let size : length (take 2 spare) ≡ 2 = length-take-le 2 spare room in
    sym (get_or-take 2 spare i 0 l) ∙ All-get_or (λ b. b ≡ 255) (take 2 spare) i 0 (omega arith) spells.before_version

begun : (size : ℕ) (bytes : List ℕ) (r : Record) → 2 ≤ length (drop size bytes) → IsSound (page_from_bytes size bytes) r → BeginsSound size bytes
begun size bytes r room (inl one) =
    record { first = filled (drop size bytes) r 0 room (omega arith) one.spells; second = filled (drop size bytes) r 1 room (omega arith) one.spells; version = inl one.version; sealed = one.sealed }
begun size bytes r room (inr two) =
    let hash : List ℕ = sha256 (take size bytes ++ take 24 (drop size bytes)) in
    record {
      first = filled (drop size bytes) r 0 room (omega arith) two.spells;
      second = filled (drop size bytes) r 1 room (omega arith) two.spells;
      version = inr two.version;
      sealed = sym (take-take 8 16 (drop 24 (drop size bytes)) (omega arith)) ∙ (ap (λ xs. take 8 xs) two.sealed ∙ take-take 8 16 hash (omega arith));
    }

pub begins : (size : ℕ) (bytes : List ℕ) → size + 32 ≤ length bytes → is_sound (page_from_bytes size bytes) ≡ true → BeginsSound size bytes
begins size bytes room sound =
    let found = some_of (record_of (page_from_bytes size bytes)) sound in
    let rest : length (drop size bytes) ≡ length bytes - size = length-drop size bytes in
    begun size bytes found.0 (omega arith) (records.is_sound (page_from_bytes size bytes) found.0 found.1)

named : (spare : List ℕ) → get_or spare 0 0 ≡ 255 → get_or spare 1 0 ≡ 255 → (get_or spare 2 0 ≡ 1) ⊎ (get_or spare 2 0 ≡ 2) → begins_as_record spare ≡ true
named spare first second (inl one) = rw first (rw second (rw one refl))
named spare first second (inr two) = rw first (rw second (rw two refl))

pub begins_so : (size : ℕ) (bytes : List ℕ) → size + 32 ≤ length bytes → is_sound (page_from_bytes size bytes) ≡ true → begins_as_record (drop size bytes) ≡ true
begins_so size bytes room sound =
    let so = begins size bytes room sound in
    named (drop size bytes) so.first so.second so.version

-- the hash of what was taken, and of what was not
pub hashed : (size taken : ℕ) (bytes : List ℕ) → taken ≤ size → take taken bytes ++ take (size + 24 - taken) (drop taken bytes) ≡ take size bytes ++ take 24 (drop size bytes)
hashed size taken bytes le =
    let whole : size + 24 - size ≡ 24 = omega arith in
    pieces taken (size + 24) bytes (omega arith) ∙ (sym (pieces size (size + 24) bytes (omega arith)) ∙ ap (λ n. take size bytes ++ take n (drop size bytes)) whole)

pub sealed_so : (size taken : ℕ) (bytes : List ℕ) → taken ≤ size → size + 32 ≤ length bytes → is_sound (page_from_bytes size bytes) ≡ true
    → take 8 (drop 24 (drop size bytes)) ≡ take 8 (sha256 (take taken bytes ++ take (size + 24 - taken) (drop taken bytes)))
sealed_so size taken bytes le room sound =
    let so = begins size bytes room sound in
    so.sealed ∙ ap (λ m. take 8 (sha256 m)) (sym (hashed size taken bytes le))

-- what stands from a place on, as a slice
pub rest_is : (size : ℕ) (bytes : List ℕ) → take (length bytes - size) (drop size bytes) ≡ drop size bytes
rest_is size bytes = take_all (length bytes - size) (drop size bytes) (let l = length-drop size bytes in omega arith)

pub same_bytes : (xs ys : List ℕ) → xs ≡ ys → bytes_eq xs ys ≡ true
same_bytes xs ys e = (bytes_eq-Decides xs ys).1 e

-- ---- the hash of the first bytes

-- what was taken before a bit was taken before the next one
pub taken_later : (size : ℕ) (bytes : List ℕ) (k : ℕ) (p : Prefix) → HasHashedPrefix size bytes k p → HasHashedPrefix size bytes (k + 1) p
taken_later size bytes k p h = record { holds = h.holds; within = h.within; behind = (let b = h.behind in omega arith) }

-- a turned bit is none of the bytes that were taken
pub taken_turned : (size : ℕ) (bytes : List ℕ) (k : ℕ) (p : Prefix) → HasHashedPrefix size bytes k p → HasHashedPrefix size (turned_bytes bytes k) k p
unfolding turned_bytes
taken_turned size bytes k p h =
    let b : p.taken ≤ k / 8 = (let far = h.behind in omega arith) in
    let same : take p.taken (turned_bytes bytes k) ≡ take p.taken bytes = take-set-le p.taken bytes (k / 8) (bit_xor (get_or bytes (k / 8) 0) (2 ^ (k % 8))) b in
    record { holds = subst (λ xs. Holds256 p.hasher xs) (sym same) h.holds; within = h.within; behind = h.behind }
