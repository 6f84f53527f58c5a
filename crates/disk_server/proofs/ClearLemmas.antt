-- What is read before it is cleared.
use Rattle.std.proofs.Common.{◌≡◌, ◌≢◌, ◌<◌, ◌≤◌, ◌+◌, ◌*◌, zero, suc, ℕ, Bool, true, false, List, [], ◌∷◌, length, replicate, Option, Some, None, Result, Ok, Err, refl, sym, ap, ◌∙◌, subst, arith}
use Rattle.std.specs.Prelude.{◌==◌, slice_index, slice_range, IsOk, IsSome, OnOk}
use Rattle.std.specs.List.{list_all}
use Rattle.std.specs.Option.{ForSome}
use Rattle.std.proofs.lemmas.Bool.{and_parts, eqb-true, false≢true}
use Rattle.std.proofs.lemmas.List.{ext_get_or, get_or-replicate, length-replicate}
use Rattle.page_layout.specs.View.{View}
use Rattle.promises.specs.Step as step
use Rattle.nbd_stream.specs.declared.fault.DiskFault.{DiskFault}
use Rattle.nbd_stream.specs.declared.fault.DiskFault.TheVariants as fault
use Rattle.nbd_stream.specs.declared.task.Task.TheVariants.{Read, Trim, Write}
use Rattle.nbd_stream.specs.Disk.{Contents, PerformsTask, answer_from}
use Rattle.nbd_stream.proofs.DiskLemmas.{past_it}
use Rattle.ftl_device.specs.declared.device.Device.{Device}
use Rattle.ftl_device.specs.declared.fault.DeviceFault.{DeviceFault}
use Rattle.ftl_device.specs.Calls.{stop_of}
use Rattle.disk_server.specs.Asked.{HasZeros}
use Rattle.disk_server.specs.Disk.{AsksChange, change_answer, contents_of, holds}
use Rattle.disk_server.proofs.Bytes.{sector_fits}
use Rattle.disk_server.proofs.GuardedLemmas.{range_at}
use Rattle.disk_server.proofs.Holding.{holds_same}
use Rattle.disk_server.proofs.Joining.{range_long, read_clears, read_then}

-- ---- zeros

-- a list that passes the test is one of zeros, and no other one is
pub all_zeros : (bytes : List ℕ) → list_all (λ (b : ℕ). b == 0) bytes ≡ true → bytes ≡ replicate (length bytes) 0
all_zeros [] e = refl
all_zeros (b ∷ bytes) e =
    let its = and_parts (b == 0) (list_all (λ (x : ℕ). x == 0) bytes) e in
    ap (λ (x : ℕ). x ∷ bytes) (eqb-true b 0 its.0) ∙ ap (λ (l : List ℕ). 0 ∷ l) (all_zeros bytes its.1)

zeros_pass : (n : ℕ) → list_all (λ (b : ℕ). b == 0) (replicate n 0) ≡ true
zeros_pass zero = refl
zeros_pass (suc n) = zeros_pass n

pub no_zeros : (n : ℕ) (bytes : List ℕ) → list_all (λ (b : ℕ). b == 0) bytes ≡ false → bytes ≢ replicate n 0
no_zeros n bytes e = λ are. (let both : true ≡ false = sym (zeros_pass n) ∙ ap (list_all (λ (b : ℕ). b == 0)) (sym are) ∙ e in (let no : ⊥ = cc in no))

-- a range that has zeros is read as zeros
zeros_range : (s : List ℕ) (o n : ℕ) → o + n ≤ length s → HasZeros o n s → slice_range s o (o + n) ≡ replicate n 0
zeros_range s o n fits zeros =
    let long : length (slice_range s o (o + n)) ≡ n = range_long o n s fits in
    ext_get_or 0 (slice_range s o (o + n)) (replicate n 0) (long ∙ sym (length-replicate {A = ℕ} n 0))
    (λ k within. (let less : k < n = omega (arith, within, long) in
    range_at s o n k less ∙ zeros (o + k) (omega arith) (omega (arith, less)) ∙ sym (get_or-replicate {A = ℕ} n k 0 0 less)))

module _ {D : Type 0} (contents : D → Contents) (honest calm : D → Bool) where
  pub zeros_read : (o n : ℕ) (old mid : D) (given : List ℕ) → o + n ≤ length (contents old).bytes → PerformsTask contents honest calm (Read o n) [] old (Ok given) mid → honest mid ≡ true
      → HasZeros o n (contents old).bytes → given ≡ replicate n 0
  zeros_read o n old mid given fits p h zeros = (p.steps h).gave ∙ zeros_range (contents old).bytes o n fits zeros

  -- once a front of the range was cleared, the rest of it has zeros
  pub zeros_left : (o n k m : ℕ) (old mid : D) → k + m ≤ n → o + n ≤ length (contents old).bytes → PerformsTask contents honest calm (Write o k false) (replicate k 0) old (Ok []) mid → honest mid ≡ true
      → HasZeros o n (contents old).bytes → HasZeros (o + k) m (contents mid).bytes
  zeros_left o n k m old mid within fits p h zeros = λ place from to.
      let long : length (replicate {A = ℕ} k 0) ≡ k = length-replicate {A = ℕ} k 0 in
      ap (λ l. slice_index l place) (p.steps h).done
      ∙ past_it o (replicate k 0) (contents old).bytes place (omega (arith, long, within, fits)) (omega (arith, long, from))
      ∙ zeros place (omega (arith, from)) (omega (arith, to, within))

  -- a sector that was read as zeros is as one that was trimmed
  pub zeros_cleared : (n size count : ℕ) (old mid : D) (given : List ℕ) → n < count → length (contents old).bytes ≡ count * size → given ≡ replicate (length given) 0
      → PerformsTask contents honest calm (Read (n * size) size) [] old (Ok given) mid → PerformsTask contents honest calm (Trim (n * size) size false) [] old (Ok []) mid
  zeros_cleared n size count old mid given within whole are p =
      let its : given ≡ replicate size 0 = are ∙ ap (λ k. replicate k 0) p.given in
      read_clears contents honest calm (n * size) size old mid (sector_fits n count size (length (contents old).bytes) within whole)
      (subst (λ l. PerformsTask contents honest calm (Read (n * size) size) [] old (Ok l) mid) its p)

-- ---- a device

pub not_done : (read : Result (Unit {0}) DiskFault) (e : DiskFault) → read ≡ Err e → read ≡ Ok tt → ⊥
not_done read e is done = (let both : Err e ≡ Ok tt = sym is ∙ done in (let no : ⊥ = cc in no))

pub was_done : (read : Result (Unit {0}) DiskFault) (e : DiskFault) → read ≡ Err e → IsOk read → ⊥
was_done (Ok done) e is ok = (let no : ⊥ = cc in no)
was_done (Err f) e is ok = false≢true ok

not_stopped : {X : Type 0} (done : Unit {0}) (o : Option DeviceFault) → ForSome o (λ (e : DeviceFault). (Ok done ≡ Err e) × X) → o ≡ None
not_stopped done None h = refl
not_stopped done (Some e) h = (let both = (h e refl).0 in let no : ⊥ = cc in absurd no)

module _ {N : Type 0} (view : View N) (n : ℕ) (old mid new : Device N)
    (read : Result (Unit {0}) DiskFault) (given : List ℕ) where
  going_before : stop_of mid.engine.fault ≡ None → (IsSome (stop_of old.engine.fault) → (read ≡ Err fault.Failed) × (mid ≡ old)) → (o : Option DeviceFault) → stop_of old.engine.fault ≡ o → o ≡ None
  going_before none stopped None is = refl
  going_before none stopped (Some e) is =
      let same : mid ≡ old = (stopped (subst (λ o. IsSome o) (sym is) refl)).1 in
      let both : Some e ≡ None = sym is ∙ ap (λ d. stop_of d.engine.fault) (sym same) ∙ none in
      (let no : ⊥ = cc in absurd no)

  still_by : view.honest mid.engine.nand ≡ view.honest old.engine.nand → (IsSome (stop_of old.engine.fault) → (read ≡ Err fault.Failed) × (mid ≡ old))
      → (answer : Result (Unit {0}) DeviceFault) (result : Result (Unit {0}) DiskFault) → result ≡ change_answer answer → ForSome (stop_of mid.engine.fault) (λ e. (answer ≡ Err e) × (new ≡ mid))
      → OnOk (answer_from result []) (holds view.honest mid ≡ holds view.honest old)
  still_by same stopped (Ok done) (Ok done') told standing =
      let none : stop_of mid.engine.fault ≡ None = not_stopped done (stop_of mid.engine.fault) standing in
      holds_same view.honest old mid same (going_before none stopped (stop_of old.engine.fault) refl) none
  still_by same stopped (Err e) (Ok done') told standing = (let no : ⊥ = cc in absurd no)
  still_by same stopped answer (Err e) told standing = tt

  -- a trim that was done of a sector that was read before, whatever came of that
  pub trimmed : (size size' : ℕ) → size' ≡ size → (result : Result (Unit {0}) DiskFault) → view.honest mid.engine.nand ≡ view.honest old.engine.nand → (IsSome (stop_of old.engine.fault) → (read ≡ Err fault.Failed) × (mid ≡ old))
      → AsksChange view n (step.Trim n) mid result new
      → PerformsTask (contents_of view) (holds view.honest) (λ d. false) (Read (n * size) size) [] old (answer_from read given) mid
      → PerformsTask (contents_of view) (holds view.honest) (λ d. false) (Trim (n * size') size' false) [] mid (answer_from result []) new
      → PerformsTask (contents_of view) (holds view.honest) (λ d. false) (Trim (n * size) size false) [] old (answer_from result []) new
  trimmed size size' size_is result same stopped asks one two =
      read_then (contents_of view) (holds view.honest) (λ d. false) (n * size) size (n * size) size old mid new (answer_from read given) (answer_from result [])
      (still_by same stopped asks.answer result asks.told asks.changes.refuses.stopped) one
      (subst (λ k. PerformsTask (contents_of view) (holds view.honest) (λ d. false) (Trim (n * k) k false) [] mid (answer_from result []) new) size_is two)
