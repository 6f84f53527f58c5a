-- The step of the array.
use Rattle.std.proofs.Common.{◌≡◌, ◌≢◌, ◌<◌, ◌≤◌, ℕ, Bool, true, false, List, [], ◌∷◌, refl, sym, ◌∙◌, ap, arith, suc, length, replicate}
use Rattle.std.specs.Prelude.{slice_get, slice_set, Some}
use Rattle.std.proofs.lemmas.List.{length-set}
use Rattle.page_layout.specs.declared.geometry.Geometry.{Geometry}
use Rattle.page_layout.specs.Array.{zeros}
use Rattle.page_layout.proofs.ArrayLemmas.{slice_get-set_same, slice_get-set_other}
use Rattle.promises.specs.Step.{ArrayState, Read, Write, Trim, Flush, Turn, Reply, Done, DoneWith, OutOfRange, ReadOnly, SequenceSpent, OutOfMemory}
use Rattle.promises.specs.Step.{WriteStep, QuietStep, ArrayStep, KeepsSectors, BecomesReadOnly, OneReadLaw, ReadBackLaw, TrimmedLaw, FlushAndTurnLaw, KeptLaw}
use Rattle.promises.specs.Step.{ReadOnlyLaw, SectorCountLaw, NeverLaw, RepliesLaw, SixLaw, OtherBytesLaw, written_once}

-- ---- lists

same_bytes : (a b : List ℕ) → Some a ≡ Some b → a ≡ b
same_bytes a b e = cc

same_state : (a b : ArrayState) → a.array ≡ b.array → a.ro ≡ b.ro → a ≡ b
same_state a b e f = ap (λ x. record { array = x; ro = a.ro }) e ∙ ap (λ r. record { array = b.array; ro = r }) f

-- ---- reads

pub one_read : OneReadLaw
one_read g old new other sector (DoneWith x) (DoneWith y) h k = (ap (λ b. DoneWith b) (same_bytes x y (sym h.bytes_are ∙ k.bytes_are)), h.same ∙ sym k.same)
one_read g old new other sector (DoneWith x) OutOfRange h k = absurd (omega (arith, h.within, k.past))
one_read g old new other sector OutOfRange (DoneWith y) h k = absurd (omega (arith, h.past, k.within))
one_read g old new other sector OutOfRange OutOfRange h k = (refl, h.same ∙ sym k.same)
one_read g old new other sector (DoneWith x) _ h k = absurd k
one_read g old new other sector OutOfRange _ h k = absurd k
one_read g old new other sector _ _ h k = absurd h

-- ---- writes

pub read_back : ReadBackLaw
read_back g old new sector bytes size h = (
  ap (λ xs. slice_get xs sector) h.array_is ∙ slice_get-set_same old.array sector bytes (omega (arith, size, h.within)),
  λ other ne. ap (λ xs. slice_get xs other) h.array_is ∙ slice_get-set_other old.array sector other bytes ne,
)

pub trimmed : TrimmedLaw
trimmed g old new sector size h = read_back g old new sector (replicate g.data_bytes 0) size h

kept_write : (g : Geometry) (old new : ArrayState) (sector : ℕ) (bytes : List ℕ) (reply : Reply) → reply ≢ Done → WriteStep g old sector bytes reply new → new.array ≡ old.array
kept_write g old new sector bytes Done ne h = absurd (ne refl)
kept_write g old new sector bytes OutOfRange ne h = ap (λ (s : ArrayState). s.array) h.same
kept_write g old new sector bytes ReadOnly ne h = h.becomes.array_is
kept_write g old new sector bytes SequenceSpent ne h = h.keeps.array_is
kept_write g old new sector bytes OutOfMemory ne h = h.keeps.array_is
kept_write g old new sector bytes _ ne h = absurd h

kept_quiet : (old new : ArrayState) (reply : Reply) → reply ≢ Done → QuietStep old reply new → new.array ≡ old.array
kept_quiet old new Done ne h = absurd (ne refl)
kept_quiet old new ReadOnly ne h = h.array_is
kept_quiet old new SequenceSpent ne h = h.array_is
kept_quiet old new _ ne h = absurd h

kept_read : (g : Geometry) (old new : ArrayState) (sector : ℕ) (reply : Reply) → ArrayStep g old (Read sector) reply new → new ≡ old
kept_read g old new sector (DoneWith x) h = h.same
kept_read g old new sector OutOfRange h = h.same
kept_read g old new sector _ h = absurd h

pub kept : KeptLaw
kept g old new (Read sector) reply ne h = ap (λ (s : ArrayState). s.array) (kept_read g old new sector reply h)
kept g old new (Write sector bytes) reply ne h = kept_write g old new sector bytes reply ne h
kept g old new (Trim sector) reply ne h = kept_write g old new sector _ reply ne h
kept g old new Flush reply ne h = kept_quiet old new reply ne h
kept g old new Turn reply ne h = kept_quiet old new reply ne h

quiet_keeps : (old new : ArrayState) (reply : Reply) → QuietStep old reply new → new.array ≡ old.array
quiet_keeps old new Done h = h.array_is
quiet_keeps old new reply h = kept_quiet old new reply (λ e. cc) h

pub quiet : FlushAndTurnLaw
quiet g old new reply = (quiet_keeps old new reply, quiet_keeps old new reply)

-- ---- a device that is read-only

pub not_both : (b : Bool) → b ≡ true → b ≡ false → ⊥
not_both b t f = cc

stays : (old new : ArrayState) → old.ro ≡ true → BecomesReadOnly old new → new ≡ old
stays old new ro h = same_state new old h.array_is (h.read_only ∙ sym ro)

read_only_write : (g : Geometry) (old new : ArrayState) (sector : ℕ) (bytes : List ℕ) (reply : Reply) → old.ro ≡ true → WriteStep g old sector bytes reply new → new ≡ old
read_only_write g old new sector bytes Done ro h = absurd (not_both old.ro ro h.writable)
read_only_write g old new sector bytes OutOfRange ro h = h.same
read_only_write g old new sector bytes ReadOnly ro h = stays old new ro h.becomes
read_only_write g old new sector bytes SequenceSpent ro h = absurd (not_both old.ro ro h.keeps.writable)
read_only_write g old new sector bytes OutOfMemory ro h = absurd (not_both old.ro ro h.keeps.writable)
read_only_write g old new sector bytes _ ro h = absurd h

read_only_quiet : (old new : ArrayState) (reply : Reply) → old.ro ≡ true → QuietStep old reply new → new ≡ old
read_only_quiet old new Done ro h = absurd (not_both old.ro ro h.writable)
read_only_quiet old new ReadOnly ro h = stays old new ro h
read_only_quiet old new SequenceSpent ro h = absurd (not_both old.ro ro h.writable)
read_only_quiet old new _ ro h = absurd h

pub read_only : ReadOnlyLaw
read_only g old new (Read sector) reply ro h = kept_read g old new sector reply h
read_only g old new (Write sector bytes) reply ro h = read_only_write g old new sector bytes reply ro h
read_only g old new (Trim sector) reply ro h = read_only_write g old new sector _ reply ro h
read_only g old new Flush reply ro h = read_only_quiet old new reply ro h
read_only g old new Turn reply ro h = read_only_quiet old new reply ro h

-- ---- how many sectors

count_write : (g : Geometry) (old new : ArrayState) (sector : ℕ) (bytes : List ℕ) (reply : Reply) → WriteStep g old sector bytes reply new → length new.array ≡ length old.array
count_write g old new sector bytes Done h = ap length h.array_is ∙ length-set old.array sector bytes
count_write g old new sector bytes OutOfRange h = ap (λ (s : ArrayState). length s.array) h.same
count_write g old new sector bytes ReadOnly h = ap length h.becomes.array_is
count_write g old new sector bytes SequenceSpent h = ap length h.keeps.array_is
count_write g old new sector bytes OutOfMemory h = ap length h.keeps.array_is
count_write g old new sector bytes _ h = absurd h

count_quiet : (old new : ArrayState) (reply : Reply) → QuietStep old reply new → length new.array ≡ length old.array
count_quiet old new Done h = ap length h.array_is
count_quiet old new reply h = ap length (kept_quiet old new reply (λ e. cc) h)

pub sector_count : SectorCountLaw
sector_count g old new (Read sector) reply h = ap (λ (s : ArrayState). length s.array) (kept_read g old new sector reply h)
sector_count g old new (Write sector bytes) reply h = count_write g old new sector bytes reply h
sector_count g old new (Trim sector) reply h = count_write g old new sector _ reply h
sector_count g old new Flush reply h = count_quiet old new reply h
sector_count g old new Turn reply h = count_quiet old new reply h

pub never : NeverLaw
never g old new (Read sector) = (λ h. h, λ h. h)
never g old new (Write sector bytes) = (λ h. h, λ h. h)
never g old new (Trim sector) = (λ h. h, λ h. h)
never g old new Flush = (λ h. h, λ h. h)
never g old new Turn = (λ h. h, λ h. h)

-- ---- runs

pub as_many : RepliesLaw
as_many g old new [] [] h = refl
as_many g old new [] (r ∷ rs) h = absurd h
as_many g old new (c ∷ cs) [] h = absurd h
as_many g old new (c ∷ cs) (r ∷ rs) h = ap suc (as_many g h.0 new cs rs h.2)

pub six : SixLaw
six g size sectors =
    let all : List (List ℕ) = slice_set (replicate 32 (zeros g)) 5 (replicate 64 17) in
    let now : ArrayState = record { array = all; ro = false } in
    let within : 5 < g.sectors = omega (arith, sectors) in
    let past : g.sectors ≤ 32 = omega (arith, sectors) in
    let keeps : KeepsSectors now now = record { writable = refl; array_is = refl } in (
      now,
      record { within = within; writable = refl; array_is = refl },
      (
        now,
        record { within = within; bytes_are = refl; same = refl },
        (
          now,
          record { within = within; keeps = keeps },
          (now, record { past = past; same = refl }, (now, keeps, (written_once g, record { array_is = refl; read_only = refl }, refl))),
        ),
      ),
    )

pub other_bytes : OtherBytesLaw
other_bytes g bytes new sectors ne h =
    let wrote = h.1 in
    let read = h.2.1 in
    ne (same_bytes bytes (replicate 64 17) (sym read.bytes_are ∙ ap (λ xs. slice_get xs 5) wrote.array_is))
