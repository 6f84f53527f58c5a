-- A mark that is torn as it is written.
use Rattle.std.proofs.Common.{rules, ◌≡◌, inl, inr, ℕ, zero, suc, ◌<◌, ◌≤◌, ◌-◌, ◌^◌, ◌+◌, ◌⊎◌, List, [], ◌∷◌, ◌++◌, length, refl, sym, ◌∙◌, ap, subst, arith}
use Rattle.std.specs.Prelude.{take, drop, slice_get, true, false, Option, Some, None}
use Rattle.std.specs.Int.{w64, to_le_bytes, from_le_bytes}
use Rattle.std.proofs.lemmas.Nat.{from_le_bytes-to_le_bytes_8}
use Rattle.std.proofs.lemmas.Bool.{cases_lt}
use Rattle.std.proofs.lemmas.List.{length-drop, take_all}
use Rattle.file_die.specs.Bytes.{AreAlike}
use Rattle.file_die.proofs.BytesLemmas.{get_drop, length_over, over_after, over_before, over_within, take_alike}
use Rattle.disk_server.specs.declared.mark.SyncMark.{SyncMark}
use Rattle.disk_commands.specs.declared.mark.FoundMark.{FoundMark}
use Rattle.disk_commands.specs.Mark.{HasSlots, IsEither, IsNumberText, IsSlotRead, IsSlotText, IsSmall, IsTornBeside, MarkBackLaw, SlotLaw, SlotPlaceLaw, TornFileLaw, TornSlotLaw, first_slot, found_in, number_text, second_slot, slot_text, torn_slot, with_slot}

-- ---- a list that is written over another one, up to a place

-- what stands behind so many of its elements, past that place
rest_past : (n k : ℕ) (a b : List ℕ) → k ≤ n → k ≤ length a → k ≤ length b → drop n (take k a ++ drop k b) ≡ drop n b
rest_past n zero a b within long_a long_b = refl
rest_past zero (suc k) a b within long_a long_b = absurd (omega (arith, within))
rest_past (suc n) (suc k) [] b within long_a long_b = absurd (omega (arith, long_a))
rest_past (suc n) (suc k) (x ∷ a) [] within long_a long_b = absurd (omega (arith, long_b))
rest_past (suc n) (suc k) (x ∷ a) (y ∷ b) within long_a long_b = rest_past n k a b (omega (arith, within)) (omega (arith, long_a)) (omega (arith, long_b))

-- before it
front_before : (n k : ℕ) (a b : List ℕ) → n ≤ k → length a ≡ length b → take n (take k a ++ drop k b) ≡ take n a
front_before zero k a b within long = refl
front_before (suc n) zero a b within long = absurd (omega (arith, within))
front_before (suc n) (suc k) [] [] within long = refl
front_before (suc n) (suc k) [] (y ∷ b) within long = absurd (omega (arith, long))
front_before (suc n) (suc k) (x ∷ a) [] within long = absurd (omega (arith, long))
front_before (suc n) (suc k) (x ∷ a) (y ∷ b) within long = ap (λ l. x ∷ l) (front_before n k a b (omega (arith, within)) (omega (arith, long)))

-- and the parts in which that place is
front_torn : (n k : ℕ) (a b : List ℕ) → k ≤ n → length a ≡ length b → take n (take k a ++ drop k b) ≡ take k (take n a) ++ drop k (take n b)
front_torn n zero a b within long = refl
front_torn zero (suc k) a b within long = absurd (omega (arith, within))
front_torn (suc n) (suc k) [] [] within long = refl
front_torn (suc n) (suc k) [] (y ∷ b) within long = absurd (omega (arith, long))
front_torn (suc n) (suc k) (x ∷ a) [] within long = absurd (omega (arith, long))
front_torn (suc n) (suc k) (x ∷ a) (y ∷ b) within long = ap (λ l. x ∷ l) (front_torn n k a b (omega (arith, within)) (omega (arith, long)))

rest_torn : (n m k : ℕ) (a b : List ℕ) → m ≡ n + k → n ≤ length a → length a ≡ length b → drop n (take m a ++ drop m b) ≡ take k (drop n a) ++ drop k (drop n b)
rest_torn zero m k a b is some long =
    let same : m ≡ k = omega (arith, is) in
    subst (λ c. drop zero (take m a ++ drop m b) ≡ take c (drop zero a) ++ drop c (drop zero b)) same (search rules)
rest_torn (suc n) zero k a b is some long = absurd (omega (arith, is))
rest_torn (suc n) (suc m) k [] b is some long = absurd (omega (arith, some))
rest_torn (suc n) (suc m) k (x ∷ a) [] is some long = absurd (omega (arith, long))
rest_torn (suc n) (suc m) k (x ∷ a) (y ∷ b) is some long = rest_torn n m k a b (omega (arith, is)) (omega (arith, some)) (omega (arith, long))

-- ---- a number

same_number : (read n : ℕ) → read < 2 ^ 64 → n < 2 ^ 64 → to_le_bytes w64 read ≡ to_le_bytes w64 n → read ≡ n
same_number read n small small_n same =
    sym (from_le_bytes-to_le_bytes_8 read small) ∙ (ap (from_le_bytes w64) same ∙ from_le_bytes-to_le_bytes_8 n small_n)

-- of bytes that are those of a number
read_back : (read n : ℕ) → n < 2 ^ 64 → IsNumberText (number_text n) read → read ≡ n
read_back read n small is = same_number read n is.small small (sym (ap (take 8) is.is))

torn_number : (old new read count : ℕ) → old < 2 ^ 64 → new < 2 ^ 64 → IsNumberText (take count (number_text new) ++ drop count (number_text old)) read → (count < 8) ⊎ (8 ≤ count) → IsEither old new read
torn_number old new read count small small_new is (inl few) =
    inl (same_number read old is.small small (sym (ap (drop 8) is.is) ∙ rest_past 8 count (number_text new) (number_text old) (omega (arith, few)) (omega (arith, few)) (omega (arith, few))))
torn_number old new read count small small_new is (inr many) =
    inr (same_number read new is.small small_new (sym (ap (take 8) is.is) ∙ front_before 8 count (number_text new) (number_text old) many refl))

either_of : (old new read count : ℕ) → old < 2 ^ 64 → new < 2 ^ 64 → IsNumberText (take count (number_text new) ++ drop count (number_text old)) read → IsEither old new read
either_of old new read count small small_new is = torn_number old new read count small small_new is (cases_lt count 8)

-- ---- a slot

pub slot_back : SlotLaw
slot_back m None small none =
    absurd (none m (record { synced = record { small = small.synced; is = refl }; flushed = record { small = small.flushed; is = refl } }))
slot_back m (Some read) small is = both (read_back read.synced m.synced small.synced is.synced) (read_back read.flushed m.flushed small.flushed is.flushed)
  where
    both : read.synced ≡ m.synced → read.flushed ≡ m.flushed → Some read ≡ Some m
    both synced flushed = ap Some (search (rules, synced, flushed))

-- torn in its first number, or in its second one
torn_at : (old new m : SyncMark) (count : ℕ) → IsSmall old → IsSmall new → IsSlotText (torn_slot count old new) m → (count < 16) ⊎ (16 ≤ count) → IsEither old.synced new.synced m.synced × IsEither old.flushed new.flushed m.flushed
torn_at old new m count small small_new is (inl few) = (
  either_of old.synced new.synced m.synced count small.synced small_new.synced
      (subst (λ l. IsNumberText l m.synced) (front_torn 16 count (slot_text new) (slot_text old) (omega (arith, few)) refl) is.synced),
  inl (read_back m.flushed old.flushed small.flushed
      (subst (λ l. IsNumberText l m.flushed) (rest_past 16 count (slot_text new) (slot_text old) (omega (arith, few)) (omega (arith, few)) (omega (arith, few))) is.flushed)),
)
torn_at old new m count small small_new is (inr many) = (
  inr (read_back m.synced new.synced small_new.synced
      (subst (λ l. IsNumberText l m.synced) (front_before 16 count (slot_text new) (slot_text old) many refl) is.synced)),
  either_of old.flushed new.flushed m.flushed (count - 16) small.flushed small_new.flushed
      (subst (λ l. IsNumberText l m.flushed) (rest_torn 16 count (count - 16) (slot_text new) (slot_text old) (omega (arith, many)) (omega arith) refl) is.flushed),
)

pub torn_slots : TornSlotLaw
torn_slots old new m count small small_new is = torn_at old new m count small small_new is (cases_lt count 16)

-- ---- the file

-- a slot that was left alone counts, or one that is later
later_second : (kept : SyncMark) (other : Option SyncMark) (found : FoundMark) → found ≡ found_in (Some kept) other
    → (found.mark ≡ kept) ⊎ ((m : SyncMark) × (other ≡ Some m) × (found.mark ≡ m) × (kept.synced ≤ m.synced))
later_second kept None found is = inl (ap (λ (f : FoundMark). f.mark) is)
later_second kept (Some m) found is = elim (cases_lt kept.synced m.synced) [
  | inl less ↦ inr (m, refl, search (rules, is, less), omega (arith, less))
  | inr most ↦ inl (search (rules, is, most))
]

later_first : (kept : SyncMark) (other : Option SyncMark) (found : FoundMark) → found ≡ found_in other (Some kept)
    → (found.mark ≡ kept) ⊎ ((m : SyncMark) × (other ≡ Some m) × (found.mark ≡ m) × (kept.synced ≤ m.synced))
later_first kept None found is = inl (ap (λ (f : FoundMark). f.mark) is)
later_first kept (Some m) found is = elim (cases_lt m.synced kept.synced) [
  | inl less ↦ inl (search (rules, is, less))
  | inr most ↦ inr (m, refl, search (rules, is, most), most)
]

-- so of the mark that is found
found_so : (kept old new : SyncMark) (count : ℕ) (other : Option SyncMark) (found : FoundMark) → IsSmall old → IsSmall new → IsSlotRead (torn_slot count old new) other
    → (found.mark ≡ kept) ⊎ ((m : SyncMark) × (other ≡ Some m) × (found.mark ≡ m) × (kept.synced ≤ m.synced))
    → (kept.synced ≤ found.mark.synced) × ((found.mark.synced ≡ kept.synced) ⊎ IsEither old.synced new.synced found.mark.synced)
found_so kept old new count other found small small_new read (inl is) = (omega (arith, ap (λ (m : SyncMark). m.synced) is), inl (ap (λ (m : SyncMark). m.synced) is))
found_so kept old new count other found small small_new read (inr is) =
    let number = ap (λ (m : SyncMark). m.synced) is.2 in (
      omega (arith, number, is.3),
      inr (subst (IsEither old.synced new.synced) (sym number) (torn_slots old new is.0 count small small_new (subst (IsSlotRead (torn_slot count old new)) is.1 read)).0),
    )

by_place : (bytes : List ℕ) (kept old new : SyncMark) (count : ℕ) (found : FoundMark) → IsSmall kept → IsSmall old → IsSmall new → IsTornBeside bytes kept old new count → HasSlots bytes found
    → (kept.synced ≤ found.mark.synced) × ((found.mark.synced ≡ kept.synced) ⊎ IsEither old.synced new.synced found.mark.synced)
by_place bytes kept old new count found small_kept small small_new (inl at) has =
    found_so kept old new count has.second found small small_new (subst (λ l. IsSlotRead l has.second) at.1 has.second_is)
    (later_second kept has.second found (has.is ∙ ap (λ o. found_in o has.second) (slot_back kept has.first small_kept (subst (λ l. IsSlotRead l has.first) at.0 has.first_is))))
by_place bytes kept old new count found small_kept small small_new (inr at) has =
    found_so kept old new count has.first found small small_new (subst (λ l. IsSlotRead l has.first) at.0 has.first_is)
    (later_first kept has.first found (has.is ∙ ap (found_in has.first) (slot_back kept has.second small_kept (subst (λ l. IsSlotRead l has.second) at.1 has.second_is))))

pub torn_files : TornFileLaw
torn_files bytes kept old new count found small_kept small small_new long at (inl read) = by_place bytes kept old new count found small_kept small small_new at read.1
torn_files bytes kept old new count found small_kept small small_new long at (inr other) = absurd (other.0 long)

-- ---- a mark that is written into its file

whole : (n : ℕ) (xs ys : List ℕ) → length xs ≡ n → length ys ≡ n → AreAlike n xs ys → xs ≡ ys
whole n xs ys long_x long_y alike = sym (take_all n xs (omega (arith, long_x))) ∙ (take_alike n xs ys alike ∙ take_all n ys (omega (arith, long_y)))

slot_long : (m : SyncMark) → length (slot_text m) ≡ 32
slot_long m = refl

second_long : (bytes : List ℕ) → length bytes ≡ 4128 → length (drop 4096 bytes) ≡ 32
second_long bytes long = omega (arith, length-drop 4096 bytes, long)

module _ (bytes : List ℕ) (m : SyncMark) (long : length bytes ≡ 4128) where
  fits_second : 4096 + length (slot_text m) ≤ length bytes
  fits_second = omega (arith, slot_long m, long)

  fits_first : 0 + length (slot_text m) ≤ length bytes
  fits_first = omega (arith, slot_long m, long)

  long_second : length (with_slot bytes true m) ≡ 4128
  long_second = length_over 4096 (slot_text m) bytes fits_second ∙ long

  long_first : length (with_slot bytes false m) ≡ 4128
  long_first = length_over 0 (slot_text m) bytes fits_first ∙ long

  second_new : second_slot (with_slot bytes true m) ≡ slot_text m
  second_new = whole 32 (drop 4096 (with_slot bytes true m)) (slot_text m) (second_long (with_slot bytes true m) long_second) (slot_long m)
      (λ i lt. get_drop 4096 (with_slot bytes true m) i ∙ over_within 4096 (slot_text m) bytes i (omega (arith, long)) (omega (arith, lt, slot_long m)))

  first_kept : first_slot (with_slot bytes true m) ≡ first_slot bytes
  first_kept = take_alike 32 (with_slot bytes true m) bytes (λ i lt. over_before 4096 (slot_text m) bytes i (omega (arith, long)) (omega (arith, lt)))

  first_new : first_slot (with_slot bytes false m) ≡ slot_text m
  first_new = take_alike 32 (with_slot bytes false m) (slot_text m) (λ i lt.
      let here : i ≡ 0 + i = omega arith in
      ap (slice_get (with_slot bytes false m)) here ∙ over_within 0 (slot_text m) bytes i (omega (arith, long)) (omega (arith, lt, slot_long m)))
      ∙ take_all 32 (slot_text m) (omega (arith, slot_long m))

  second_kept : second_slot (with_slot bytes false m) ≡ second_slot bytes
  second_kept = whole 32 (drop 4096 (with_slot bytes false m)) (drop 4096 bytes) (second_long (with_slot bytes false m) long_first) (second_long bytes long)
      (λ i lt. get_drop 4096 (with_slot bytes false m) i
      ∙ (over_after 0 (slot_text m) bytes (4096 + i) (omega (arith, long)) (omega (arith, slot_long m)) ∙ sym (get_drop 4096 bytes i)))

pub slot_placed : SlotPlaceLaw
slot_placed bytes true m long = (second_new bytes m long, first_kept bytes m long)
slot_placed bytes false m long = (first_new bytes m long, second_kept bytes m long)

-- what is found is that mark, or the one of the other slot, which was so before
told_other : (m : SyncMark) (found : FoundMark) (was now : List ℕ) (other : Option SyncMark) → now ≡ was → IsSlotRead now other
    → (found.mark ≡ m) ⊎ ((n : SyncMark) × (other ≡ Some n) × (found.mark ≡ n) × (m.synced ≤ n.synced)) → (found.mark ≡ m) ⊎ ((n : SyncMark) × IsSlotText was n × (found.mark ≡ n) × (m.synced ≤ n.synced))
told_other m found was now other same read (inl is) = inl is
told_other m found was now other same read (inr h) = inr (h.0, subst (λ l. IsSlotText l h.0) same (subst (IsSlotRead now) h.1 read), h.2, h.3)

pub found_back : MarkBackLaw
found_back bytes true m found small long (inr other) = absurd (other.0 (long_second bytes m long))
found_back bytes false m found small long (inr other) = absurd (other.0 (long_first bytes m long))
found_back bytes true m found small long (inl read) =
    let has = read.1 in
    let is : has.second ≡ Some m = slot_back m has.second small (subst (λ l. IsSlotRead l has.second) (second_new bytes m long) has.second_is) in
    told_other m found (first_slot bytes) (first_slot (with_slot bytes true m)) has.first (first_kept bytes m long) has.first_is (later_first m has.first found (has.is ∙ ap (found_in has.first) is))
found_back bytes false m found small long (inl read) =
    let has = read.1 in
    let is : has.first ≡ Some m = slot_back m has.first small (subst (λ l. IsSlotRead l has.first) (first_new bytes m long) has.first_is) in
    told_other m found (second_slot bytes) (second_slot (with_slot bytes false m)) has.second (second_kept bytes m long) has.second_is
    (later_second m has.second found (has.is ∙ ap (λ o. found_in o has.second) is))
