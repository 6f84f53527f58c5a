-- The bytes that a device shows of which some sectors are lost.
use Rattle.std.proofs.Common.{◌≡◌, ◌≢◌, ◌+◌, ◌-◌, ◌*◌, ◌/◌, ◌<◌, ◌≤◌, inl, inr, zero, suc, ℕ, Bool, true, false, List, [], ◌∷◌, length, replicate, get_or, take, drop, set, Result, Ok, Err, refl, sym, ap, ◌∙◌, subst, arith, add-zero, zero-add, length-drop}
use Rattle.std.specs.Prelude.{slice_index, slice_range, slice_set, IfErr, IfOk, OnOk, OnErr, if◌then◌else◌}
use Rattle.std.proofs.lemmas.Bool.{cases_lt}
use Rattle.std.proofs.lemmas.List.{ext_get_or, get_or_past, get_or-drop, get_or-set_same, get_or-set_other, get_or-take, length-replicate, length-take-le}
use Rattle.std.proofs.lemmas.Nat.{div-mul-add}
use Rattle.std.proofs.Math.Nat.{div-mul-le_self, lt-div-mul-add}
use Rattle.nbd_stream.specs.declared.fault.DiskFault.{DiskFault}
use Rattle.nbd_stream.specs.declared.fault.DiskFault.TheVariants as fault
use Rattle.nbd_stream.specs.declared.reply.RequestError.{RequestError}
use Rattle.nbd_stream.specs.declared.reply.RequestError.TheVariants.{InputOutput}
use Rattle.nbd_stream.specs.declared.task.Task.{Task}
use Rattle.nbd_stream.specs.declared.task.Task.TheVariants.{Flush, Read, Trim}
use Rattle.nbd_stream.specs.Disk.{Contents, Idles, IsOldOrDue, MayFailWith, PerformsTask, answer_from, error_for, TaskSteps, bytes_after, bytes_given, count_given, with_bytes}
use Rattle.nbd_stream.proofs.DiskLemmas.{before_it, inside_it, length-with_bytes, past_it}
use Rattle.disk_server.specs.declared.guarded.GuardedSectors.{GuardedSectors}
use Rattle.disk_server.specs.Asked.{HasZeros}
use Rattle.disk_server.specs.Guarded.{GuardedByteLaw, GuardedReadLaw, HealedLaw, HealsIfListed, UnkeptLaw, guarded_byte, guarded_from, is_listed, no_byte, guarded_contents}
use Rattle.disk_server.proofs.Bytes.{sector_fits}
use Rattle.disk_server.proofs.Tasks.{Answer, lasting}

-- ---- a byte

pub length-guarded : (size : ℕ) (lost : List Bool) (place : ℕ) (bytes : List ℕ) → length (guarded_from size lost place bytes) ≡ length bytes
unfolding guarded_from
length-guarded size lost place [] = refl
length-guarded size lost place (byte ∷ bytes) = ap suc (length-guarded size lost (place + 1) bytes)

byte_from : (size : ℕ) (lost : List Bool) (place : ℕ) (bytes : List ℕ) (k : ℕ) → k < length bytes
    → get_or (guarded_from size lost place bytes) k 0 ≡ guarded_byte size lost (place + k) (get_or bytes k 0)
unfolding guarded_from
byte_from size lost place [] k within = absurd (omega (arith, within))
byte_from size lost place (byte ∷ bytes) zero within = ap (λ n. guarded_byte size lost n byte) (sym (add-zero place))
byte_from size lost place (byte ∷ bytes) (suc k) within =
    byte_from size lost (place + 1) bytes k (omega (arith, within))
    ∙ ap (λ n. guarded_byte size lost n (get_or bytes k 0)) (omega arith)

pub byte_law : GuardedByteLaw
byte_law size lost bytes place within = byte_from size lost 0 bytes place within ∙ ap (λ n. guarded_byte size lost n (get_or bytes place 0)) (zero-add place)

-- of a sector that is not lost it is the device's, of any other none
there : (size : ℕ) (lost : List Bool) (place byte : ℕ) → get_or lost (place / size) false ≡ false → guarded_byte size lost place byte ≡ byte
there size lost place byte is = ap (λ b. if b then no_byte else byte) is

pub none_there : (size : ℕ) (lost : List Bool) (place byte : ℕ) → get_or lost (place / size) false ≡ true → guarded_byte size lost place byte ≡ no_byte
none_there size lost place byte is = ap (λ b. if b then no_byte else byte) is

at_lost : (size : ℕ) (lost : List Bool) (bytes : List ℕ) (p : ℕ) → p < length bytes → get_or lost (p / size) false ≡ true → slice_index (guarded_from size lost 0 bytes) p ≡ no_byte
at_lost size lost bytes p within is = byte_law size lost bytes p within ∙ none_there size lost p (slice_index bytes p) is

at_there : (size : ℕ) (lost : List Bool) (bytes : List ℕ) (p : ℕ) → p < length bytes → get_or lost (p / size) false ≡ false → slice_index (guarded_from size lost 0 bytes) p ≡ slice_index bytes p
at_there size lost bytes p within is = byte_law size lost bytes p within ∙ there size lost p (slice_index bytes p) is

-- ---- the sector of a place

inside : (size n place : ℕ) → n * size ≤ place → place < n * size + size → place / size ≡ n
inside size n place from to =
    let back : n * size + (place - n * size) ≡ place = omega (arith, from) in
    ap (λ p. p / size) (sym back) ∙ div-mul-add n size (place - n * size) (omega (arith, from, to))

before : (size n place : ℕ) → place < n * size → place / size ≢ n
before size n place less = λ is. (let most : n * size ≤ place = subst (λ k. k * size ≤ place) is (div-mul-le_self place size) in absurd (omega (arith, most, less)))

past : (size n place : ℕ) → 0 < size → n * size + size ≤ place → place / size ≢ n
past size n place some more = λ is. (let less : place < n * size + size = subst (λ k. place < k * size + size) is (lt-div-mul-add some) in absurd (omega (arith, less, more)))

-- ---- a sector that is set

-- SECTOR n IS NOT LISTED, and of each other one nothing has changed
pub record IsCleared (n : ℕ) (old new : List Bool) : Type 0 where
  pub here : get_or new n false ≡ false
  pub others : (m : ℕ) → m ≢ n → get_or new m false ≡ get_or old m false

pub unlisted : (n : ℕ) (lost : List Bool) → get_or lost n false ≡ false → IsCleared n lost lost
unlisted n lost is = record { here = is; others = λ m other. refl }

pub taken : (n : ℕ) (old new : List Bool) → get_or old n false ≡ true → new ≡ slice_set old n false → IsCleared n old new
taken n old new was is = record {
  here = elim (cases_lt n (length old)) [
    | inl within ↦ ap (λ l. get_or l n false) is ∙ get_or-set_same old n false false within
    | inr beyond ↦ (let no : false ≡ true = sym (get_or_past old n false beyond) ∙ was in (let never : ⊥ = cc in absurd never))
  ];
  others = λ m other. ap (λ l. get_or l m false) is ∙ get_or-set_other old n m false false other;
}

same_byte : (size : ℕ) (lost lost' : List Bool) (place byte : ℕ) → get_or lost' (place / size) false ≡ get_or lost (place / size) false → guarded_byte size lost' place byte ≡ guarded_byte size lost place byte
same_byte size lost lost' place byte same = ap (λ b. if b then no_byte else byte) same

module _ (size n : ℕ) (body s : List ℕ) (some : 0 < size) (long : length body ≡ size) (fits : n * size + size ≤ length s) where
  set_at : (lost lost' : List Bool) → IsCleared n lost lost' → (p : ℕ) → p < length s
      → guarded_byte size lost' p (slice_index (with_bytes (n * size) body s) p) ≡ slice_index (with_bytes (n * size) body (guarded_from size lost 0 s)) p
  set_at lost lost' cleared p within =
      let shown : List ℕ = guarded_from size lost 0 s in
      let same : length shown ≡ length s = length-guarded size lost 0 s in
      let fits' : n * size + length body ≤ length s = omega (arith, long, fits) in
      let shown_fits : n * size + length body ≤ length shown = omega (arith, same, fits') in
      elim (cases_lt p (n * size)) [
        | inl less ↦ ap (guarded_byte size lost' p) (before_it (n * size) body s p fits' less)
            ∙ same_byte size lost lost' p (slice_index s p) (cleared.others (p / size) (before size n p less))
            ∙ sym (byte_law size lost s p within) ∙ sym (before_it (n * size) body shown p shown_fits less)
        | inr from ↦ elim (cases_lt p (n * size + size)) [
          | inl to ↦ there size lost' p _ (ap (λ k. get_or lost' k false) (inside size n p from to) ∙ cleared.here)
              ∙ inside_it (n * size) body s p fits' from (omega (arith, to, long)) ∙ sym (inside_it (n * size) body shown p shown_fits from (omega (arith, to, long)))
          | inr more ↦ ap (guarded_byte size lost' p) (past_it (n * size) body s p fits' (omega (arith, more, long)))
              ∙ same_byte size lost lost' p (slice_index s p) (cleared.others (p / size) (past size n p some more))
              ∙ sym (byte_law size lost s p within) ∙ sym (past_it (n * size) body shown p shown_fits (omega (arith, more, long)))
        ]
      ]

  -- WHAT IS SHOWN is set where the device's bytes are, and the sector is taken off the list
  pub shown_set : (lost lost' : List Bool) (t : List ℕ) → IsCleared n lost lost' → t ≡ with_bytes (n * size) body s → guarded_from size lost' 0 t ≡ with_bytes (n * size) body (guarded_from size lost 0 s)
  shown_set lost lost' t cleared is =
      let set : List ℕ = with_bytes (n * size) body s in
      let shown : List ℕ = guarded_from size lost 0 s in
      let set_long : length set ≡ length s = length-with_bytes (n * size) body s (omega (arith, long, fits)) in
      let shown_long : length shown ≡ length s = length-guarded size lost 0 s in
      let due_long : length (with_bytes (n * size) body shown) ≡ length shown = length-with_bytes (n * size) body shown (omega (arith, long, fits, shown_long)) in
      let all_long : length (guarded_from size lost' 0 set) ≡ length set = length-guarded size lost' 0 set in
      ap (guarded_from size lost' 0) is
      ∙ ext_get_or 0 (guarded_from size lost' 0 set) (with_bytes (n * size) body shown) (all_long ∙ set_long ∙ sym shown_long ∙ sym due_long)
      (λ p within. (let here : p < length s = omega (arith, within, all_long, set_long) in byte_law size lost' set p (omega (arith, here, set_long)) ∙ set_at lost lost' cleared p here))

  torn_at : (lost : List Bool) (t : List ℕ) → length t ≡ length s → (p : ℕ) → p < length s → IsOldOrDue s (with_bytes (n * size) body s) t p → (b : Bool) → get_or lost (p / size) false ≡ b
      → IsOldOrDue (guarded_from size lost 0 s) (with_bytes (n * size) body (guarded_from size lost 0 s)) (guarded_from size lost 0 t) p
  torn_at lost t same p within either true is = inl (at_lost size lost t p (omega (arith, within, same)) is ∙ sym (at_lost size lost s p within is))
  torn_at lost t same p within (inl was) false is = inl (at_there size lost t p (omega (arith, within, same)) is ∙ was ∙ sym (at_there size lost s p within is))
  torn_at lost t same p within (inr due) false is =
      let fits' : n * size + length body ≤ length s = omega (arith, long, fits) in
      let shown_fits : n * size + length body ≤ length (guarded_from size lost 0 s) = omega (arith, length-guarded size lost 0 s, fits') in
      let now : slice_index (guarded_from size lost 0 t) p ≡ slice_index (with_bytes (n * size) body s) p = at_there size lost t p (omega (arith, within, same)) is ∙ due in
      elim (cases_lt p (n * size)) [
        | inl less ↦ inl (now ∙ before_it (n * size) body s p fits' less ∙ sym (at_there size lost s p within is))
        | inr from ↦ elim (cases_lt p (n * size + length body)) [
          | inl to ↦ inr (now ∙ inside_it (n * size) body s p fits' from to ∙ sym (inside_it (n * size) body (guarded_from size lost 0 s) p shown_fits from to))
          | inr more ↦ inl (now ∙ past_it (n * size) body s p fits' more ∙ sym (at_there size lost s p within is))
        ]
      ]

  -- where that failed, each byte that is shown is as it was or as it was to be
  pub shown_torn : (lost : List Bool) (t : List ℕ) → length t ≡ length s → (p : ℕ) → IsOldOrDue s (with_bytes (n * size) body s) t p
      → IsOldOrDue (guarded_from size lost 0 s) (with_bytes (n * size) body (guarded_from size lost 0 s)) (guarded_from size lost 0 t) p
  shown_torn lost t same p either =
      let shown_long : length (guarded_from size lost 0 s) ≡ length s = length-guarded size lost 0 s in
      let new_long : length (guarded_from size lost 0 t) ≡ length t = length-guarded size lost 0 t in
      elim (cases_lt p (length s)) [
        | inl within ↦ torn_at lost t same p within either (get_or lost (p / size) false) refl
        | inr beyond ↦ inl (get_or_past (guarded_from size lost 0 t) p 0 (omega (arith, new_long, same, beyond)) ∙ sym (get_or_past (guarded_from size lost 0 s) p 0 (omega (arith, shown_long, beyond))))
      ]

-- ---- what is read

shown_piece : (size n : ℕ) (lost : List Bool) (s : List ℕ) (k : ℕ) → get_or lost n false ≡ false → k < size → n * size + k < length s
    → slice_index (guarded_from size lost 0 s) (n * size + k) ≡ slice_index s (n * size + k)
shown_piece size n lost s k is less within = at_there size lost s (n * size + k) within (ap (λ m. get_or lost m false) (inside size n (n * size + k) (omega arith) (omega (arith, less))) ∙ is)

-- a range of bytes, byte by byte
pub range_at : (s : List ℕ) (o c k : ℕ) → k < c → slice_index (slice_range s o (o + c)) k ≡ slice_index s (o + k)
range_at s o c k less =
    let all : (o + c) - o ≡ c = omega arith in
    ap (λ m. slice_index (take m (drop o s)) k) all ∙ get_or-take c (drop o s) k 0 less ∙ get_or-drop o s k 0

range_long : (s : List ℕ) (o c : ℕ) → o + c ≤ length s → length (slice_range s o (o + c)) ≡ c
range_long s o c fits = length-take-le ((o + c) - o) (drop o s) (omega (arith, length-drop o s, fits)) ∙ omega arith

-- A SECTOR THAT IS NOT LISTED is given as the device gives it
pub shown_range : (size n : ℕ) (lost : List Bool) (s : List ℕ) → n * size + size ≤ length s → get_or lost n false ≡ false
    → slice_range (guarded_from size lost 0 s) (n * size) (n * size + size) ≡ slice_range s (n * size) (n * size + size)
shown_range size n lost s fits is =
    let shown : List ℕ = guarded_from size lost 0 s in
    let same : length shown ≡ length s = length-guarded size lost 0 s in
    let given_long : length (slice_range shown (n * size) (n * size + size)) ≡ size = range_long shown (n * size) size (omega (arith, same, fits)) in
    ext_get_or 0 (slice_range shown (n * size) (n * size + size)) (slice_range s (n * size) (n * size + size)) (given_long ∙ sym (range_long s (n * size) size fits))
    (λ k within. (let less : k < size = omega (arith, within, given_long) in
    range_at shown (n * size) size k less ∙ shown_piece size n lost s k is less (omega (arith, less, fits)) ∙ sym (range_at s (n * size) size k less)))

-- so one that is shown as zeros is one of zeros, and none that is listed is
pub shown_zeros : (size n : ℕ) (lost : List Bool) (s : List ℕ) → n * size + size ≤ length s → get_or lost n false ≡ false → HasZeros (n * size) size (guarded_from size lost 0 s) → HasZeros (n * size) size s
shown_zeros size n lost s fits is zeros = λ place from to.
    sym (at_there size lost s place (omega (arith, to, fits)) (ap (λ m. get_or lost m false) (inside size n place from to) ∙ is)) ∙ zeros place from to

pub listed_zeros : (size n : ℕ) (lost : List Bool) (s : List ℕ) → 0 < size → n * size + size ≤ length s → get_or lost n false ≡ true → HasZeros (n * size) size (guarded_from size lost 0 s) → ⊥
listed_zeros size n lost s some fits is zeros =
    let none : slice_index (guarded_from size lost 0 s) (n * size) ≡ no_byte =
    at_lost size lost s (n * size) (omega (arith, some, fits)) (ap (λ m. get_or lost m false) (inside size n (n * size) (omega arith) (omega (arith, some))) ∙ is) in
    let zero : slice_index (guarded_from size lost 0 s) (n * size) ≡ 0 = zeros (n * size) (omega arith) (omega (arith, some)) in
    omega (arith, none, zero)

pub read_law : GuardedReadLaw
read_law size lost bytes offset count place given fits from to is gives =
    let shown : List ℕ = guarded_from size lost 0 bytes in
    let back : offset + (place - offset) ≡ place = omega (arith, from) in
    let none : slice_index given (place - offset) ≡ no_byte = ap (λ l. slice_index l (place - offset)) gives ∙ range_at shown offset count (place - offset) (omega (arith, from, to))
    ∙ ap (slice_index shown) back ∙ at_lost size lost bytes place (omega (arith, to, fits)) is in
    omega (arith, none)

-- ---- one call

-- the bytes of a device that are the same ones are shown as the same ones
pub shown_kept : (size : ℕ) (lost : List Bool) (s t : List ℕ) → length t ≡ length s → (p : ℕ) → slice_index t p ≡ slice_index s p
    → slice_index (guarded_from size lost 0 t) p ≡ slice_index (guarded_from size lost 0 s) p
shown_kept size lost s t same p is = elim (cases_lt p (length s)) [
  | inl within ↦ byte_law size lost t p (omega (arith, within, same)) ∙ ap (guarded_byte size lost p) is ∙ sym (byte_law size lost s p within)
  | inr beyond ↦ get_or_past (guarded_from size lost 0 t) p 0 (omega (arith, length-guarded size lost 0 t, same, beyond))
      ∙ sym (get_or_past (guarded_from size lost 0 s) p 0 (omega (arith, length-guarded size lost 0 s, beyond)))
]

-- of what keeps nothing back: done, the bytes are those that the task leaves; else each is one of two
steps_shown : (task : Task) (body s : List ℕ) (answer : Answer) (t : List ℕ) → OnOk answer (t ≡ bytes_after task body s) → IfOk answer (λ given. given ≡ bytes_given task s)
    → OnErr answer ((place : ℕ) → IsOldOrDue s (bytes_after task body s) t place) → TaskSteps task body (lasting s) answer (lasting t)
steps_shown task body s (Ok given) t done gave torn = record {
  done = done;
  gave = gave;
  torn = tt;
  stays = λ p. inr (inr (ap (λ l. slice_index l p) done));
  lasts = λ p makes. refl;
}
steps_shown task body s (Err e) t done gave torn = record { done = tt; gave = tt; torn = torn; stays = λ p. inr (torn p); lasts = tt }

either_kept : (s t : List ℕ) (p : ℕ) → IsOldOrDue s s t p → slice_index t p ≡ slice_index s p
either_kept s t p (inl is) = is
either_kept s t p (inr is) = is

-- a read of a sector that is not listed
pub read_steps : (size n : ℕ) (lost : List Bool) (s t : Contents) (answer : Answer) → n * size + size ≤ length s.bytes → length t.bytes ≡ length s.bytes → get_or lost n false ≡ false
    → TaskSteps (Read (n * size) size) [] s answer t → TaskSteps (Read (n * size) size) [] (lasting (guarded_from size lost 0 s.bytes)) answer (lasting (guarded_from size lost 0 t.bytes))
read_steps size n lost s t (Ok given) fits same is steps =
    steps_shown (Read (n * size) size) [] (guarded_from size lost 0 s.bytes) (Ok given) (guarded_from size lost 0 t.bytes) (ap (guarded_from size lost 0) steps.done)
    (steps.gave ∙ sym (shown_range size n lost s.bytes fits is)) tt
read_steps size n lost s t (Err e) fits same is steps =
    steps_shown (Read (n * size) size) [] (guarded_from size lost 0 s.bytes) (Err e) (guarded_from size lost 0 t.bytes) tt tt
    (λ p. inl (shown_kept size lost s.bytes t.bytes same p (either_kept s.bytes t.bytes p (steps.torn p))))

-- a flush
pub flush_steps : (size : ℕ) (lost : List Bool) (s t : Contents) (answer : Answer) → length t.bytes ≡ length s.bytes
    → TaskSteps Flush [] s answer t → TaskSteps Flush [] (lasting (guarded_from size lost 0 s.bytes)) answer (lasting (guarded_from size lost 0 t.bytes))
flush_steps size lost s t (Ok given) same steps =
    steps_shown Flush [] (guarded_from size lost 0 s.bytes) (Ok given) (guarded_from size lost 0 t.bytes) (ap (guarded_from size lost 0) steps.done) steps.gave tt
flush_steps size lost s t (Err e) same steps =
    steps_shown Flush [] (guarded_from size lost 0 s.bytes) (Err e) (guarded_from size lost 0 t.bytes) tt tt
    (λ p. inl (shown_kept size lost s.bytes t.bytes same p (either_kept s.bytes t.bytes p (steps.torn p))))

-- a change of a sector: the device has done it, and the sector was taken off the list, or was to be; or the device has failed
module _ (size n : ℕ) (task : Task) (body set : List ℕ) (leaves : (l : List ℕ) → bytes_after task body l ≡ with_bytes (n * size) set l) (gives : (l : List ℕ) → [] ≡ bytes_given task l)
    (some : 0 < size) (long : length set ≡ size) (lost : List Bool) (s t : Contents) (fits : n * size + size ≤ length s.bytes) where
  set_steps : (lost' : List Bool) → IsCleared n lost lost' → TaskSteps task body s (Ok []) t
      → guarded_from size lost' 0 t.bytes ≡ bytes_after task body (guarded_from size lost 0 s.bytes)
  set_steps lost' cleared steps =
      shown_set size n set s.bytes some long fits lost lost' t.bytes cleared (steps.done ∙ leaves s.bytes) ∙ sym (leaves (guarded_from size lost 0 s.bytes))

  pub healed_steps : (lost' : List Bool) → IsCleared n lost lost' → TaskSteps task body s (Ok []) t
      → TaskSteps task body (lasting (guarded_from size lost 0 s.bytes)) (Ok []) (lasting (guarded_from size lost' 0 t.bytes))
  healed_steps lost' cleared steps =
      steps_shown task body (guarded_from size lost 0 s.bytes) (Ok []) (guarded_from size lost' 0 t.bytes) (set_steps lost' cleared steps) (gives (guarded_from size lost 0 s.bytes)) tt

  pub unhealed_steps : (lost' : List Bool) (e : RequestError) → IsCleared n lost lost' → TaskSteps task body s (Ok []) t
      → TaskSteps task body (lasting (guarded_from size lost 0 s.bytes)) (Err e) (lasting (guarded_from size lost' 0 t.bytes))
  unhealed_steps lost' e cleared steps =
      steps_shown task body (guarded_from size lost 0 s.bytes) (Err e) (guarded_from size lost' 0 t.bytes) tt tt (λ p. inr (ap (λ l. slice_index l p) (set_steps lost' cleared steps)))

  pub failed_steps : (e : RequestError) → length t.bytes ≡ length s.bytes → TaskSteps task body s (Err e) t
      → TaskSteps task body (lasting (guarded_from size lost 0 s.bytes)) (Err e) (lasting (guarded_from size lost 0 t.bytes))
  failed_steps e same steps =
      let shown : List ℕ = guarded_from size lost 0 s.bytes in
      steps_shown task body shown (Err e) (guarded_from size lost 0 t.bytes) tt tt
      (λ p. subst (λ l. IsOldOrDue shown l (guarded_from size lost 0 t.bytes) p) (sym (leaves shown))
      (shown_torn size n set s.bytes some long fits lost t.bytes same p (subst (λ l. IsOldOrDue s.bytes l t.bytes p) (leaves s.bytes) (steps.torn p))))

-- ---- a call of the whole

module _ {S K : Type 0} (contents : S → Contents) (size : S → ℕ) (honest : S → Bool) where
  -- with so many bytes a sector
  same_size : (d : GuardedSectors S K) (n : ℕ) → size d.sectors ≡ n → guarded_contents contents size d ≡ lasting (guarded_from n d.lost.items 0 (contents d.sectors).bytes)
  same_size d n is = ap (λ k. lasting (guarded_from k d.lost.items 0 (contents d.sectors).bytes)) is

  pub call_shown : (task : Task) (body : List ℕ) (old : GuardedSectors S K) (answer : Answer) (new : GuardedSectors S K) → size new.sectors ≡ size old.sectors → length (contents new.sectors).bytes ≡ length (contents old.sectors).bytes
      → OnOk answer (honest new.sectors ≡ honest old.sectors) → (honest new.sectors ≡ true → honest old.sectors ≡ true) → IfErr answer (MayFailWith task) → IfOk answer (λ given. length given ≡ count_given task)
      → (honest new.sectors ≡ true → TaskSteps task body (lasting (guarded_from (size old.sectors) old.lost.items 0 (contents old.sectors).bytes)) answer (lasting (guarded_from (size old.sectors) new.lost.items 0 (contents new.sectors).bytes)))
      → PerformsTask (guarded_contents contents size) (λ d. honest d.sectors) (λ d. false) task body old answer new
  call_shown task body old answer new same long kept back may given steps = record {
    sized = length-guarded (size new.sectors) new.lost.items 0 (contents new.sectors).bytes ∙ long ∙ sym (length-guarded (size old.sectors) old.lost.items 0 (contents old.sectors).bytes);
    kept = kept;
    back = back;
    calm_is = refl;
    fault = may;
    given = given;
    calmly = λ never. (let no : ⊥ = cc in absurd no);
    steps = λ h. subst (λ c. TaskSteps task body (guarded_contents contents size old) answer c) (sym (same_size new (size old.sectors) same)) (steps h);
  }

  pub rest_shown : (calm : S → Bool) (old : GuardedSectors S K) (result : Result (Unit {0}) DiskFault) (new : GuardedSectors S K) → size new.sectors ≡ size old.sectors → new.lost.items ≡ old.lost.items
      → Idles contents honest calm old.sectors result new.sectors → Idles (guarded_contents contents size) (λ d. honest d.sectors) (λ d. false) old result new
  rest_shown calm old result new same lost idles =
      let bytes_same : honest new.sectors ≡ true → (guarded_contents contents size new).bytes ≡ (guarded_contents contents size old).bytes = λ h.
      (ap (λ (c : Contents). c.bytes) (same_size new (size old.sectors) same) ∙ ap (λ l. guarded_from (size old.sectors) l 0 (contents new.sectors).bytes) lost
      ∙ ap (guarded_from (size old.sectors) old.lost.items 0) (idles.bytes h)) in
      record {
        sized = length-guarded (size new.sectors) new.lost.items 0 (contents new.sectors).bytes ∙ idles.sized ∙ sym (length-guarded (size old.sectors) old.lost.items 0 (contents old.sectors).bytes);
        kept = idles.kept;
        was_honest = idles.was_honest;
        calm_is = refl;
        fault = idles.fault;
        calmly = λ never. (let no : ⊥ = cc in absurd no);
        bytes = bytes_same;
        stays = λ h place. inl (ap (λ l. slice_index l place) (bytes_same h));
      }

  cleared_of : (kept : K → List Bool) (n : ℕ) (old new : GuardedSectors S K) → HealsIfListed kept n old new → IsCleared n old.lost.items new.lost.items
  cleared_of kept n old new (inl kept_so) = subst (λ v. IsCleared n old.lost.items v.items) (sym kept_so.1.lost_same) (unlisted n old.lost.items kept_so.0)
  cleared_of kept n old new (inr heals) = taken n old.lost.items new.lost.items heals.was heals.taken

  cleared_by : (n : ℕ) (old new : GuardedSectors S K) (result : Result (Unit {0}) DiskFault) (e : DiskFault) (b : Bool) → result ≡ Err e → is_listed old n ≡ b
      → (is_listed old n ≡ false → (result ≡ Ok tt) × (new ≡ old)) → (is_listed old n ≡ true → new.lost.items ≡ slice_set old.lost.items n false) → IsCleared n old.lost.items new.lost.items
  cleared_by n old new result e true failed is done off = taken n old.lost.items new.lost.items is (off is)
  cleared_by n old new result e false failed is done off = (let no : result ≡ Ok tt = (done is).0 in (let never : ⊥ = cc in absurd never))

  -- a change that the device has done: the sector was taken off the list, or it was to be
  module _ (kept : K → List Bool) (calm : S → Bool) (n : ℕ) (task : Task) (body set : List ℕ) (old : GuardedSectors S K) (leaves : (l : List ℕ) → bytes_after task body l ≡ with_bytes (n * size old.sectors) set l)
      (gives : (l : List ℕ) → [] ≡ bytes_given task l) (may : MayFailWith task InputOutput) (some : 0 < size old.sectors) (long : length set ≡ size old.sectors) (count : ℕ) (within : n < count) (whole : length (contents old.sectors).bytes ≡ count * size old.sectors)
      (mid : S) (new : GuardedSectors S K) (same : size mid ≡ size old.sectors) (sectors : new.sectors ≡ mid) (p : PerformsTask contents honest calm task body old.sectors (Ok []) mid) where
    fits : n * size old.sectors + size old.sectors ≤ length (contents old.sectors).bytes
    fits = sector_fits n count (size old.sectors) (length (contents old.sectors).bytes) within whole

    device_steps : honest new.sectors ≡ true → TaskSteps task body (contents old.sectors) (Ok []) (contents new.sectors)
    device_steps h = subst (λ s. TaskSteps task body (contents old.sectors) (Ok []) (contents s)) (sym sectors) (p.steps (sym (ap honest sectors) ∙ h))

    pub change_shown : (result : Result (Unit {0}) DiskFault) → OnOk result (HealsIfListed kept n (record old { sectors = mid }) new)
        → (is_listed old n ≡ false → (result ≡ Ok tt) × (new ≡ record old { sectors = mid })) → (is_listed old n ≡ true → new.lost.items ≡ slice_set old.lost.items n false) → IfErr result (λ e. e ≡ fault.Failed)
        → PerformsTask (guarded_contents contents size) (λ d. honest d.sectors) (λ d. false) task body old (answer_from result []) new
    change_shown (Ok done) heals unlisted_so off failed =
        call_shown task body old (Ok []) new (ap size sectors ∙ same) (ap (λ s. length (contents s).bytes) sectors ∙ p.sized) (ap honest sectors ∙ p.kept) (λ h. p.back (sym (ap honest sectors) ∙ h)) tt p.given
        (λ h. healed_steps (size old.sectors) n task body set leaves gives some long old.lost.items (contents old.sectors) (contents new.sectors) fits new.lost.items
        (cleared_of kept n (record old { sectors = mid }) new heals) (device_steps h))
    change_shown (Err e) heals unlisted_so off failed =
        call_shown task body old (Err (error_for e)) new (ap size sectors ∙ same) (ap (λ s. length (contents s).bytes) sectors ∙ p.sized) tt (λ h. p.back (sym (ap honest sectors) ∙ h))
        (subst (λ f. MayFailWith task (error_for f)) (sym failed) may) tt
        (λ h. unhealed_steps (size old.sectors) n task body set leaves gives some long old.lost.items (contents old.sectors) (contents new.sectors) fits new.lost.items (error_for e)
        (cleared_by n (record old { sectors = mid }) new (Err e) e (is_listed old n) refl refl unlisted_so off) (device_steps h))

  -- or it has failed
  pub failed_shown : (calm : S → Bool) (n : ℕ) (task : Task) (body set : List ℕ) (old : GuardedSectors S K) (leaves : (l : List ℕ) → bytes_after task body l ≡ with_bytes (n * size old.sectors) set l)
      (gives : (l : List ℕ) → [] ≡ bytes_given task l) (some : 0 < size old.sectors) (long : length set ≡ size old.sectors) (count : ℕ) (within : n < count) (whole : length (contents old.sectors).bytes ≡ count * size old.sectors)
      (new : GuardedSectors S K) (e : RequestError) → size new.sectors ≡ size old.sectors → new.lost.items ≡ old.lost.items → PerformsTask contents honest calm task body old.sectors (Err e) new.sectors
      → PerformsTask (guarded_contents contents size) (λ d. honest d.sectors) (λ d. false) task body old (Err e) new
  failed_shown calm n task body set old leaves gives some long count within whole new e same lost p =
      call_shown task body old (Err e) new same p.sized tt p.back p.fault tt
      (λ h. subst (λ l. TaskSteps task body (lasting (guarded_from (size old.sectors) old.lost.items 0 (contents old.sectors).bytes)) (Err e) (lasting (guarded_from (size old.sectors) l 0 (contents new.sectors).bytes))) (sym lost)
      (failed_steps (size old.sectors) n task body set leaves gives some long old.lost.items (contents old.sectors) (contents new.sectors) (sector_fits n count (size old.sectors) (length (contents old.sectors).bytes) within whole) e p.sized (p.steps h)))

  -- a sector that was set to zeros: the device has done it, or has failed
  pub zeros_shown : (kept : K → List Bool) (calm : S → Bool) (n : ℕ) (old : GuardedSectors S K) → 0 < size old.sectors → (count : ℕ) → n < count → length (contents old.sectors).bytes ≡ count * size old.sectors
      → (mid : S) (new : GuardedSectors S K) → size mid ≡ size old.sectors → new.sectors ≡ mid → PerformsTask contents honest calm (Trim (n * size old.sectors) (size old.sectors) false) [] old.sectors (Ok []) mid
      → (result : Result (Unit {0}) DiskFault) → OnOk result (HealsIfListed kept n (record old { sectors = mid }) new) → (is_listed old n ≡ false → (result ≡ Ok tt) × (new ≡ record old { sectors = mid }))
      → (is_listed old n ≡ true → new.lost.items ≡ slice_set old.lost.items n false) → IfErr result (λ e. e ≡ fault.Failed)
      → PerformsTask (guarded_contents contents size) (λ d. honest d.sectors) (λ d. false) (Trim (n * size old.sectors) (size old.sectors) false) [] old (answer_from result []) new
  zeros_shown kept calm n old some count within whole mid new same sectors p =
      change_shown kept calm n (Trim (n * size old.sectors) (size old.sectors) false) [] (replicate (size old.sectors) 0) old (λ l. refl) (λ l. refl) (inl refl) some (length-replicate {A = ℕ} (size old.sectors) 0) count within whole mid new same sectors p

  pub zeros_failed : (calm : S → Bool) (n : ℕ) (old : GuardedSectors S K) → 0 < size old.sectors → (count : ℕ) → n < count → length (contents old.sectors).bytes ≡ count * size old.sectors
      → (new : GuardedSectors S K) (e : RequestError) → size new.sectors ≡ size old.sectors → new.lost.items ≡ old.lost.items
      → PerformsTask contents honest calm (Trim (n * size old.sectors) (size old.sectors) false) [] old.sectors (Err e) new.sectors
      → PerformsTask (guarded_contents contents size) (λ d. honest d.sectors) (λ d. false) (Trim (n * size old.sectors) (size old.sectors) false) [] old (Err e) new
  zeros_failed calm n old some count within whole new e same lost p =
      failed_shown calm n (Trim (n * size old.sectors) (size old.sectors) false) [] (replicate (size old.sectors) 0) old (λ l. refl) (λ l. refl) some (length-replicate {A = ℕ} (size old.sectors) 0) count within whole new e same lost p

-- ---- laws of its list

pub healed_law : (S : Type 0) {K : Type 0} (kept : K → List Bool) → HealedLaw S kept
healed_law S kept n m old new (inl same) = (
  ap (λ l. get_or l.items n false) same.1.lost_same ∙ same.0,
  λ other. ap (λ l. get_or l.items m false) same.1.lost_same,
  λ was. absurd (let no : false ≡ true = sym same.0 ∙ was in (let never : ⊥ = cc in never)),
)
healed_law S kept n m old new (inr heals) =
    let cleared = taken n old.lost.items new.lost.items heals.was heals.taken in
    (cleared.here, λ other. cleared.others m other, λ was. heals.lasts)

pub unkept_law : {S K : Type 0} (failed : K → ℕ) (is : S → Result (Unit {0}) DiskFault → S → Type 0) → UnkeptLaw failed is
unkept_law failed is old mid new result less (inl same) passed = absurd (let count : failed mid.keeper ≡ failed old.keeper = ap failed same.keeper_same in omega (arith, less, count))
unkept_law failed is old mid new result less (inr fails) (inl over) = over.1
unkept_law failed is old mid new result less (inr fails) (inr going) = absurd (let no : true ≡ false = sym fails.0 ∙ going.0 in (let never : ⊥ = cc in never))
