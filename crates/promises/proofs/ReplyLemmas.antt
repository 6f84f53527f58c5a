-- Which replies come to a command.
use Rattle.std.proofs.Common.{◌≡◌, ◌≢◌, ◌<◌, ◌≤◌, inl, inr, ℕ, true, refl, arith, List}
use Rattle.std.specs.Prelude.{◌↔◌}
use Rattle.page_layout.specs.declared.geometry.Geometry.{Geometry}
use Rattle.promises.specs.Step.{ArrayState, Read, Write, Trim, Flush, Turn, Reply, Done, DoneWith, OutOfRange, ReadOnly, SequenceSpent, OutOfMemory}
use Rattle.promises.specs.Step.{WriteStep, QuietStep, AnswersWrite, AnswersQuiet, MayAnswerLaw, PastLaw, AfterReadOnlyLaw, RefusesLaw}
use Rattle.promises.proofs.StepLemmas.{not_both}

write_answers : (g : Geometry) (old new : ArrayState) (sector : ℕ) (bytes : List ℕ) (reply : Reply) → WriteStep g old sector bytes reply new → AnswersWrite reply
write_answers g old new sector bytes Done h = inl refl
write_answers g old new sector bytes OutOfRange h = inr (inl refl)
write_answers g old new sector bytes ReadOnly h = inr (inr (inl refl))
write_answers g old new sector bytes SequenceSpent h = inr (inr (inr (inl refl)))
write_answers g old new sector bytes OutOfMemory h = inr (inr (inr (inr refl)))
write_answers g old new sector bytes _ h = absurd h

quiet_answers : (old new : ArrayState) (reply : Reply) → QuietStep old reply new → AnswersQuiet reply
quiet_answers old new Done h = inl refl
quiet_answers old new ReadOnly h = inr (inl refl)
quiet_answers old new SequenceSpent h = inr (inr refl)
quiet_answers old new _ h = absurd h

pub may_answer : MayAnswerLaw
may_answer g old new (Read sector) (DoneWith bytes) h = inl (bytes, refl)
may_answer g old new (Read sector) OutOfRange h = inr refl
may_answer g old new (Read sector) _ h = absurd h
may_answer g old new (Write sector bytes) reply h = write_answers g old new sector bytes reply h
may_answer g old new (Trim sector) reply h = write_answers g old new sector _ reply h
may_answer g old new Flush reply h = quiet_answers old new reply h
may_answer g old new Turn reply h = quiet_answers old new reply h

-- ---- sectors past the last

-- the reply is another one, and the sector is in range
within : (g : Geometry) (sector : ℕ) (reply : Reply) → reply ≢ OutOfRange → sector < g.sectors → (reply ≡ OutOfRange) ↔ (g.sectors ≤ sector)
within g sector reply ne lt = (λ e. absurd (ne e), λ le. absurd (omega (arith, le, lt)))

past_write : (g : Geometry) (old new : ArrayState) (sector : ℕ) (bytes : List ℕ) (reply : Reply) → WriteStep g old sector bytes reply new → (reply ≡ OutOfRange) ↔ (g.sectors ≤ sector)
past_write g old new sector bytes Done h = within g sector Done (λ e. cc) h.within
past_write g old new sector bytes OutOfRange h = (λ e. h.past, λ le. refl)
past_write g old new sector bytes ReadOnly h = within g sector ReadOnly (λ e. cc) h.within
past_write g old new sector bytes SequenceSpent h = within g sector SequenceSpent (λ e. cc) h.within
past_write g old new sector bytes OutOfMemory h = within g sector OutOfMemory (λ e. cc) h.within
past_write g old new sector bytes _ h = absurd h

past_quiet : (old new : ArrayState) (reply : Reply) → QuietStep old reply new → (reply ≡ OutOfRange) ↔ ⊥
past_quiet old new Done h = (λ e. cc, λ no. absurd no)
past_quiet old new ReadOnly h = (λ e. cc, λ no. absurd no)
past_quiet old new SequenceSpent h = (λ e. cc, λ no. absurd no)
past_quiet old new _ h = absurd h

pub past : PastLaw
past g old new (Read sector) (DoneWith bytes) h = within g sector (DoneWith bytes) (λ e. cc) h.within
past g old new (Read sector) OutOfRange h = (λ e. h.past, λ le. refl)
past g old new (Read sector) _ h = absurd h
past g old new (Write sector bytes) reply h = past_write g old new sector bytes reply h
past g old new (Trim sector) reply h = past_write g old new sector _ reply h
past g old new Flush reply h = past_quiet old new reply h
past g old new Turn reply h = past_quiet old new reply h

-- ---- devices that are read-only

pub after_read_only : AfterReadOnlyLaw
after_read_only g old new (Read sector) h = absurd h
after_read_only g old new (Write sector bytes) h = h.becomes.read_only
after_read_only g old new (Trim sector) h = h.becomes.read_only
after_read_only g old new Flush h = h.read_only
after_read_only g old new Turn h = h.read_only

refuses_write : (g : Geometry) (old new : ArrayState) (sector : ℕ) (bytes : List ℕ) (reply : Reply) → old.ro ≡ true → reply ≢ OutOfRange → WriteStep g old sector bytes reply new → reply ≡ ReadOnly
refuses_write g old new sector bytes Done ro ne h = absurd (not_both old.ro ro h.writable)
refuses_write g old new sector bytes OutOfRange ro ne h = absurd (ne refl)
refuses_write g old new sector bytes ReadOnly ro ne h = refl
refuses_write g old new sector bytes SequenceSpent ro ne h = absurd (not_both old.ro ro h.keeps.writable)
refuses_write g old new sector bytes OutOfMemory ro ne h = absurd (not_both old.ro ro h.keeps.writable)
refuses_write g old new sector bytes _ ro ne h = absurd h

refuses_quiet : (old new : ArrayState) (reply : Reply) → old.ro ≡ true → QuietStep old reply new → reply ≡ ReadOnly
refuses_quiet old new Done ro h = absurd (not_both old.ro ro h.writable)
refuses_quiet old new ReadOnly ro h = refl
refuses_quiet old new SequenceSpent ro h = absurd (not_both old.ro ro h.writable)
refuses_quiet old new _ ro h = absurd h

pub refuses : RefusesLaw
refuses g old new (Read sector) reply ro other ne h = absurd (other sector refl)
refuses g old new (Write sector bytes) reply ro other ne h = refuses_write g old new sector bytes reply ro ne h
refuses g old new (Trim sector) reply ro other ne h = refuses_write g old new sector _ reply ro ne h
refuses g old new Flush reply ro other ne h = refuses_quiet old new reply ro h
refuses g old new Turn reply ro other ne h = refuses_quiet old new reply ro h
