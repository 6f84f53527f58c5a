-- A change of a sector that is not listed.
use Rattle.std.proofs.Common.{◌≡◌, ◌⊎◌, inl, inr, ℕ, Bool, true, List, [], Result, Ok, Err, refl, ap, sym, subst}
use Rattle.std.specs.Prelude.{IfErr, OnErr}
use Rattle.nbd_stream.specs.declared.fault.DiskFault.{DiskFault}
use Rattle.nbd_stream.specs.declared.fault.DiskFault.TheVariants as fault
use Rattle.nbd_stream.specs.declared.task.Task.{Task}
use Rattle.nbd_stream.specs.Disk.{Contents, PerformsTask, answer_from}
use Rattle.disk_server.specs.declared.guarded.GuardedSectors.{GuardedSectors}
use Rattle.disk_server.specs.Guarded.{ChangesGuarded}

-- it is the device's
pub asked : {S : Type 0} (contents : S → Contents) (honest calm : S → Bool) (task : Task) (body : List ℕ) (old mid new : S) (result : Result (Unit {0}) DiskFault) → result ≡ Ok tt → new ≡ mid
    → PerformsTask contents honest calm task body old (Ok []) mid → PerformsTask contents honest calm task body old (answer_from result []) new
asked {S} contents honest calm task body old mid new result is same performs = subst (λ (r : Result (Unit {0}) DiskFault). PerformsTask contents honest calm task body old (answer_from r []) new) (sym is)
    (subst (λ (s : S). PerformsTask contents honest calm task body old (Ok []) s) (sym same) performs)

-- one that is may have failed to be taken off the list
pub asked_or : {S : Type 0} (contents : S → Contents) (honest calm : S → Bool) (task : Task) (body : List ℕ) (old mid new : S) (result : Result (Unit {0}) DiskFault) (P Q : Type 0) → new ≡ mid → OnErr result (P × Q)
    → PerformsTask contents honest calm task body old (Ok []) mid → PerformsTask contents honest calm task body old (answer_from result []) new ⊎ Q
asked_or {S} contents honest calm task body old mid new (Ok done) P Q same fails performs = inl (subst (λ (s : S). PerformsTask contents honest calm task body old (Ok []) s) (sym same) performs)
asked_or {S} contents honest calm task body old mid new (Err e) P Q same fails performs = inr fails.1

-- a change that was done, and the list behind it
pub changed_so : {S K : Type 0} (changes : S → Result (Unit {0}) DiskFault → S → Type 0) (old new : GuardedSectors S K) (mid : S) (result : Result (Unit {0}) DiskFault) (Q : Type 0) → new.sectors ≡ mid → changes old.sectors (Ok tt) mid
    → OnErr result ((new.failed ≡ true) × Q) → IfErr result (λ e. e ≡ fault.Failed) → ChangesGuarded changes old result new
changed_so changes old new mid (Ok done) Q same is fails told = inr (Ok tt, subst (λ s. changes old.sectors (Ok tt) s) (sym same) is, inl refl)
changed_so changes old new mid (Err e) Q same is fails told = inr (Ok tt, subst (λ s. changes old.sectors (Ok tt) s) (sym same) is, inr (refl, ap (λ x. Err x) told, fails.0))
