-- Marks that are written into their file.
use Rattle.std.proofs.Common.{◌≡◌, ◌∙◌, ℕ, ◌+◌, ◌≤◌, Bool, true, false, not, List, [], ◌∷◌, length, Result, Ok, Err, ap, arith, inl, inr, refl, subst, sym}
use Rattle.std.specs.Prelude.{◌≢◌, ◌<◌, IfErr, is_err, take, drop, get_or, replicate, slice_get, slice_set, unwrap_or, Option, Some, None}
use Rattle.std.proofs.lemmas.List.{get_or-replicate, get_or-set_other, get_or-set_same, length-replicate, length-set}
use Rattle.std.proofs.lemmas.Option.{slice_get-get_or}
use Rattle.file_die.specs.Bytes.{Bytes, over}
use Rattle.file_die.specs.Rows.{WritesAll}
use Rattle.file_die.proofs.BytesLemmas.{get_drop, get_take, length_mixed, length_over}
use Rattle.disk_server.specs.declared.mark.SyncMark.{SyncMark}
use Rattle.disk_commands.specs.declared.mark_file.MarkFile.{MarkFile}
use Rattle.disk_commands.specs.Mark.{IsNumberText, IsSlotRead, file_length, found_in, slot_at, slot_text}
use Rattle.disk_commands.specs.MarkFile.{BeginsMark, BlankMarkLaw, IsMarkBytes, KeepsIn, KeepsMark, WritesSlot, slot_after}

slot_long : (m : SyncMark) → length (slot_text m) ≡ 32
slot_long m = refl

slot_within : (second : Bool) → slot_at second + 32 ≤ file_length
slot_within true = omega arith
slot_within false = omega arith

-- a mark over a slot leaves the file as long as it was
pub wrote : (s t : Bytes) (second : Bool) (m : SyncMark) (at : ℕ) (given : List ℕ) (done : Bool) → at ≡ slot_at second → given ≡ slot_text m → IsMarkBytes s
    → (at ≤ length s.bytes → WritesAll s at given done t) → WritesSlot s second m done t × IsMarkBytes t
wrote s t second m at given done at_is given_is long writes =
    let fits : slot_at second + length (slot_text m) ≤ length s.bytes = omega (arith, slot_within second, slot_long m, long) in
    let before : at ≤ length s.bytes = omega (arith, fits, at_is) in
    let here : WritesSlot s second m done t = subst (λ (a : ℕ). WritesAll s a (slot_text m) done t) at_is (subst (λ (g : List ℕ). WritesAll s at g done t) given_is (writes before)) in
    (here, length_mixed file_length s.bytes (over (slot_at second) (slot_text m) s.bytes) t.bytes here.mixes long (length_over (slot_at second) (slot_text m) s.bytes fits ∙ long))

module _ {F : Type 0} (held : F → Bytes) (honest : F → Bool) where
  -- what a write of a mark into the slot that is next says
  pub record Puts (old : MarkFile F) (m : SyncMark) (done : Bool) (new : MarkFile F) : Type 0 where
    pub writes : honest old.file ≡ true → IsMarkBytes (held old.file) → WritesSlot (held old.file) old.second m done (held new.file) × IsMarkBytes (held new.file)
    pub as_honest : honest new.file ≡ honest old.file
    pub same_second : new.second ≡ old.second
    pub same_fresh : new.fresh ≡ old.fresh

  -- and the first one, made to last
  pub record Begins (old : MarkFile F) (m : SyncMark) (new : MarkFile F) : Type 0 where
    pub begins : honest old.file ≡ true → IsMarkBytes (held old.file) → BeginsMark (held old.file) old.second m true (held new.file) × IsMarkBytes (held new.file)
    pub as_honest : honest new.file ≡ honest old.file
    pub other : new.second ≡ not old.second
    pub begun : new.fresh ≡ false

  pub kept_first : (old mid new : MarkFile F) (m : SyncMark) (done : Bool) → old.fresh ≡ true → Begins old m mid → Puts mid m done new → KeepsIn held honest old m done new
  kept_first old mid new m done fresh first then = record {
    keeps = λ h long.
        let b = first.begins h long in
        let w = then.writes (first.as_honest ∙ h) b.1 in (
          subst (λ (f : Bool). KeepsMark f (held old.file) old.second m done (held new.file)) (sym fresh)
              (inr (held mid.file, b.0, subst (λ (s : Bool). WritesSlot (held mid.file) s m done (held new.file)) first.other w.0)),
          w.1,
        );
    as_honest = then.as_honest ∙ first.as_honest;
    begun = λ ok. then.same_fresh ∙ first.begun;
    next = λ ok. then.same_second ∙ first.other ∙ sym (ap (λ (f : Bool). slot_after f old.second) fresh);
  }

  pub kept_later : (old new : MarkFile F) (m : SyncMark) (done : Bool) → old.fresh ≡ false → Puts old m done new → KeepsIn held honest old m done new
  kept_later old new m done fresh then = record {
    keeps = λ h long.
        let w = then.writes h long in
        (subst (λ (f : Bool). KeepsMark f (held old.file) old.second m done (held new.file)) (sym fresh) w.0, w.1);
    as_honest = then.as_honest;
    begun = λ ok. then.same_fresh ∙ fresh;
    next = λ ok. then.same_second ∙ sym (ap (λ (f : Bool). slot_after f old.second) fresh);
  }

-- an answer that is an error has its fault, of which so much is known
pub fault_of : {A E : Type 0} (answer : Result A E) (P : E → Type 0) → is_err answer ≡ true → IfErr answer P → (why : E) × P why
fault_of (Ok x) P failed known = (let no : ⊥ = cc in absurd no)
fault_of (Err why) P failed known = (why, known)

-- ---- a file as it is made

-- a number stands twice
twice : (bytes : List ℕ) (n : ℕ) → IsNumberText bytes n → take 8 bytes ≡ drop 8 bytes
twice bytes n is = ap (take 8) is.is ∙ sym (ap (drop 8) is.is)

-- so none is where its first byte and its ninth differ
no_number : (bytes : List ℕ) (n a b : ℕ) → slice_get bytes 0 ≡ Some a → slice_get bytes 8 ≡ Some b → a ≢ b → ¬ IsNumberText bytes n
no_number bytes n a b first ninth differ is =
    let same : Some a ≡ Some b = sym first ∙ (sym (get_take 8 bytes 0 (omega arith)) ∙ (ap (λ (xs : List ℕ). slice_get xs 0) (twice bytes n is) ∙ (get_drop 8 bytes 0 ∙ ninth))) in
    differ (ap (λ o. unwrap_or o 0) same)

module _ (zeros : List ℕ) (long : length zeros ≡ 4128) (none : (i : ℕ) → i < 4128 → get_or zeros i 0 ≡ 0) where
  abbrev once : List ℕ
  once = slice_set zeros 0 1

  abbrev twice_set : List ℕ
  twice_set = slice_set once 4096 1

  once_long : length once ≡ 4128
  once_long = length-set zeros 0 1 ∙ long

  byte : (i x : ℕ) → i < 4128 → get_or twice_set i 0 ≡ x → slice_get twice_set i ≡ Some x
  byte i x within is = slice_get-get_or twice_set i 0 (omega (arith, within, length-set once 4096 1, once_long)) ∙ ap Some is

  zero_at : (i : ℕ) → i < 4128 → i ≢ 0 → i ≢ 4096 → slice_get twice_set i ≡ Some 0
  zero_at i within not_first not_second = byte i 0 within (get_or-set_other once 4096 i 1 0 not_second ∙ (get_or-set_other zeros 0 i 1 0 not_first ∙ none i within))

  first_at : slice_get twice_set 0 ≡ Some 1
  first_at = byte 0 1 (omega arith) (get_or-set_other once 4096 0 1 0 (λ e. omega (arith, e)) ∙ get_or-set_same zeros 0 1 0 (omega (arith, long)))

  second_at_is : slice_get twice_set 4096 ≡ Some 1
  second_at_is = byte 4096 1 (omega arith) (get_or-set_same once 4096 1 0 (omega (arith, once_long)))

  none_first : (first : Option SyncMark) → IsSlotRead (take 32 (slice_set (slice_set zeros 0 1) 4096 1)) first → first ≡ None
  none_first None is = refl
  none_first (Some m) is = absurd (no_number (take 16 (take 32 twice_set)) m.synced 1 0
      (get_take 16 (take 32 twice_set) 0 (omega arith) ∙ (get_take 32 twice_set 0 (omega arith) ∙ first_at))
      (get_take 16 (take 32 twice_set) 8 (omega arith) ∙ (get_take 32 twice_set 8 (omega arith) ∙ zero_at 8 (omega arith) (λ e. omega (arith, e)) (λ e. omega (arith, e)))) (λ e. omega (arith, e)) is.synced)

  none_second : (second : Option SyncMark) → IsSlotRead (drop 4096 (slice_set (slice_set zeros 0 1) 4096 1)) second → second ≡ None
  none_second None is = refl
  none_second (Some m) is = absurd (no_number (take 16 (drop 4096 twice_set)) m.synced 1 0
      (get_take 16 (drop 4096 twice_set) 0 (omega arith) ∙ (get_drop 4096 twice_set 0 ∙ second_at_is))
      (get_take 16 (drop 4096 twice_set) 8 (omega arith) ∙ (get_drop 4096 twice_set 8 ∙ zero_at 4104 (omega arith) (λ e. omega (arith, e)) (λ e. omega (arith, e)))) (λ e. omega (arith, e)) is.synced)

abbrev of_zeros : List ℕ
of_zeros = replicate 4128 0

all_zero : (i : ℕ) → i < 4128 → get_or of_zeros i 0 ≡ 0
all_zero i within = get_or-replicate 4128 i 0 0 within

pub blank_mark : BlankMarkLaw
blank_mark found (inl slots) =
    slots.1.is ∙ (ap (λ o. found_in o slots.1.second) (none_first of_zeros (length-replicate {A = ℕ} 4128 0) all_zero slots.1.first slots.1.first_is)
    ∙ ap (λ o. found_in None o) (none_second of_zeros (length-replicate {A = ℕ} 4128 0) all_zero slots.1.second slots.1.second_is))
blank_mark found (inr other) = other.1
