-- Why the bytes of a file were not read or written, and why it was not taken.
use Rattle.std.proofs.Common.{◌≡◌, ◌≢◌, ◌≤◌, ◌∙◌, ◌*◌, ◌^◌, suc, inl, inr, ap, arith, refl, sym, subst, ℕ, Bool, true, false, List, length, drop, length-take, length-drop}
use Rattle.std.specs.Prelude.{Result, Ok, Err}
use Rattle.std.proofs.lemmas.Option.{same_Some}
use Rattle.file_die.specs.declared.bytes.ByteFault.{ByteFault}
use Rattle.file_die.specs.declared.bytes.ByteFault.TheVariants as fault
use Rattle.file_die.specs.Bytes.{WritesFailBy, HasAnswered, Gives, InARow, NoCall, NoRead, OneCall, OneMore, came_by}
use Rattle.file_die.specs.Rows.{lacks_room}
use Rattle.file_die.specs.FaultLaws.{GivesAll, HadRoom, EndedLaw, WholeReadLaw, WholeWriteLaw, NoWriteFailsLaw, OwnFaultLaw, FullLaw, ChangedLaw, RowReadLaw, SyncedLaw, FirstFaultLaw, NeverRefusedLaw, PatientLaw}

still_held : {F : Type 0} → (held : F → List ℕ) (gave : F → ℕ → ℕ → Result (List ℕ) ByteFault → F → Type 0) (old : F) (at : ℕ) (bytes : List ℕ) (new : F) → GivesAll held gave → Gives gave old at bytes new → held new ≡ held old
still_held held gave old at _ _ all NoRead = refl
still_held held gave old at _ _ all (OneMore before mid room answer new gives last) = all.same _ _ _ _ _ last ∙ still_held held gave old at before mid all gives

pub ended_law : {F : Type 0} → (gave : F → ℕ → ℕ → Result (List ℕ) ByteFault → F → Type 0) → EndedLaw gave
ended_law gave held old new at wanted why all ended =
    let same : held ended.mid ≡ held old = still_held held gave old at ended.before ended.mid all ended.gives in
    elim ended.last [
      | inl failed ↦ absurd (all.done _ _ _ _ _ failed)
      | inr told ↦
          let past = all.some ended.mid new _ ended.rest ended.some told.1 in
          (omega (arith, past, ap length same, ended.unread, ended.some), told.0)
    ]

no_fault : (why : ByteFault) (bytes : List ℕ) → Err why ≡ Ok bytes → ⊥
no_fault why bytes e = let no : ⊥ = cc in no

abbrev as_answer : List ℕ → Result (List ℕ) ByteFault
as_answer xs = Ok xs

same_bytes : (xs ys : List ℕ) → as_answer xs ≡ as_answer ys → xs ≡ ys
same_bytes xs ys e = ap came_by e

pub whole_read_law : WholeReadLaw
whole_read_law = record {
  same = λ old new at room answer gave. gave.0;
  done = λ old new at room why gave. no_fault _ _ gave.1;
  some = λ old new at room lt gave. omega (arith, ap length (same_bytes _ _ gave.1), length-take room (drop at old), length-drop at old, lt);
}

no_count : (why : ByteFault) (n : ℕ) → Err why ≡ Ok n → ⊥
no_count why n e = let no : ⊥ = cc in no

abbrev as_count : ℕ → Result ℕ ByteFault
as_count n = Ok n

abbrev count_in : Result ℕ ByteFault → ℕ
count_in (Ok n) = n
count_in (Err why) = 0

same_count : (n k : ℕ) → as_count n ≡ as_count k → n ≡ k
same_count n k e = ap count_in e

pub whole_write_law : WholeWriteLaw
whole_write_law = record {
  done = λ old new at bytes why wrote. no_count _ _ wrote.1;
  some = λ old new at bytes lt wrote. omega (arith, lt, same_count _ _ wrote.1);
}

pub taken_law : {F : Type 0} → (wrote : F → ℕ → List ℕ → Result ℕ ByteFault → F → Type 0) → NoWriteFailsLaw wrote
taken_law wrote why new all (inl (mid, at, bytes, told)) = all.done mid new at bytes why told
taken_law wrote why new all (inr (other, (mid, at, bytes, some, told))) = all.some mid new at bytes some told

pub own_fault_law : {F : Type 0} → (wrote : F → ℕ → List ℕ → Result ℕ ByteFault → F → Type 0) → OwnFaultLaw wrote
own_fault_law wrote why new not_other (inl told) = told
own_fault_law wrote why new not_other (inr (other, none)) = absurd (not_other other)

had_room : {F : Type 0} → (wrote : F → ℕ → List ℕ → Result ℕ ByteFault → F → Type 0) (why : ByteFault) (new : F) → why ≢ fault.NoSpace → WritesFailBy wrote why new → HadRoom wrote new
had_room wrote why new room (inl told) = (Err why, (λ is. room cc), told)
had_room wrote why new room (inr (other, (mid, at, bytes, some, told))) = (Ok 0, (λ is. cc), (mid, at, bytes, told))

-- by whether a sync has failed, and by the fault
full_by : {F : Type 0} → (wrote : F → ℕ → List ℕ → Result ℕ ByteFault → F → Type 0) (sync_failed full : Bool) (why : ByteFault) (new : F) → full ≡ lacks_room true sync_failed (Err why) → WritesFailBy wrote why new
    → (full ≡ true → (sync_failed ≡ false) × HasAnswered wrote (Err fault.NoSpace) new) × (full ≡ false → sync_failed ≡ false → HadRoom wrote new)
full_by wrote true full fault.NoSpace new is by = ((λ e. let no : ⊥ = cc in absurd no), (λ e held. let no : ⊥ = cc in absurd no))
full_by wrote true full fault.Interrupted new is by = ((λ e. let no : ⊥ = cc in absurd no), (λ e held. let no : ⊥ = cc in absurd no))
full_by wrote true full fault.Other new is by = ((λ e. let no : ⊥ = cc in absurd no), (λ e held. let no : ⊥ = cc in absurd no))
full_by wrote false full fault.NoSpace new is by = ((λ e. (refl, own_fault_law wrote fault.NoSpace new (λ o. cc) by)), (λ e held. let no : ⊥ = cc in absurd no))
full_by wrote false full fault.Interrupted new is by = ((λ e. let no : ⊥ = cc in absurd no), (λ e held. had_room wrote fault.Interrupted new (λ o. cc) by))
full_by wrote false full fault.Other new is by = ((λ e. let no : ⊥ = cc in absurd no), (λ e held. had_room wrote fault.Other new (λ o. cc) by))

pub full_law : {F : Type 0} → (wrote : F → ℕ → List ℕ → Result ℕ ByteFault → F → Type 0) → FullLaw wrote
full_law wrote old new told = full_by wrote old.sync_failed new.full told.why new.file told.full told.fails

pub changed_law : {F : Type 0} → (wrote : F → ℕ → List ℕ → Result ℕ ByteFault → F → Type 0) → ChangedLaw wrote
changed_law wrote old new all told = taken_law wrote told.why new.file all told.fails

pub row_read_law : {F : Type 0} → (gave : F → ℕ → ℕ → Result (List ℕ) ByteFault → F → Type 0) → RowReadLaw gave
row_read_law gave held row size old new all whole told =
    let past = (ended_law gave held old.file new.file (row * size) size told.why all told.ended).0 in
    omega (arith, past, whole)

only_true : (b : Bool) → (b ≡ false → ⊥) → b ≡ true
only_true true never = refl
only_true false never = absurd (never refl)

pub synced_law : {F : Type 0} → (refused : F → ByteFault → F → Type 0) → SyncedLaw refused
synced_law refused old new never told = only_true old.sync_failed (λ held. never old.file new.file told.why (told.refused_by held))

pub first_fault_law : {F : Type 0} → (wrote : F → ℕ → List ℕ → Result ℕ ByteFault → F → Type 0) → FirstFaultLaw wrote
first_fault_law wrote old new why none some told =
    let same : told.why ≡ why = same_Some told.why why (sym (told.first none) ∙ some) in
    subst (λ e. WritesFailBy wrote e new.file) same told.fails

pub refused_law : {F : Type 0} → (refused : F → ByteFault → F → Type 0) → NeverRefusedLaw refused
refused_law refused why new never (mid, told) = never mid new why told

counted_at_least : {F : Type 0} → (one : F → F → Type 0) (count : F → ℕ) (n : ℕ) (new : F) → ((old left : F) → one old left → count left ≡ suc (count old)) → InARow one n new → n ≤ count new
counted_at_least one count _ _ rises (NoCall new) = omega arith
counted_at_least one count _ _ rises (OneCall n mid new before last) = omega (arith, rises mid new last, counted_at_least one count n mid rises before)

pub patient_law : {F : Type 0} → (one : F → F → Type 0) → PatientLaw one
patient_law one count why new rises few patient is =
    let many : 2 ^ 64 ≤ count new = counted_at_least one count (2 ^ 64) new rises (patient is) in
    omega (arith, many, few)
