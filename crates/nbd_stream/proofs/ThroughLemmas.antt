-- Steps one behind another, and what asks for no change.
use Rattle.std.proofs.Common.{◌≡◌, ℕ, suc, zero, Bool, true, false, Result, Ok, Err, refl, sym, subst}
use Rattle.nbd_stream.specs.declared.export.Export.{Export}
use Rattle.nbd_stream.specs.declared.reply.RequestError.{RequestError}
use Rattle.nbd_stream.specs.declared.request.NbdHeader.{NbdHeader}
use Rattle.nbd_stream.specs.declared.task.Task.{Task}
use Rattle.nbd_stream.specs.declared.task.Task.TheVariants.{Read, Write, Flush, Trim, WriteZeroes}
use Rattle.nbd_stream.specs.Tasks.{admitted, asks_change}
use Rattle.nbd_stream.specs.Through.{Times, Through}
use Rattle.nbd_stream.proofs.TaskLemmas.{admitted_sound}

pub none : {D : Type 0} (R : D → D → Type 0) (old new : D) → new ≡ old → Through R old new
unfolding Times
none R old new same = (0, same)

pub once : {D : Type 0} (R : D → D → Type 0) (old new : D) → R old new → Through R old new
unfolding Times
once R old new one = (1, (old, refl, one))

behind : {D : Type 0} (R : D → D → Type 0) (n : ℕ) (old mid new : D) → Through R old mid → Times R n mid new → Through R old new
unfolding Times
behind R zero old mid new before same = subst (Through R old) (sym same) before
behind R (suc n) old mid new before more =
    let most = behind R n old mid more.0 before more.1 in
    (suc most.0, (more.0, most.1, more.2))

pub joined : {D : Type 0} (R : D → D → Type 0) (old mid new : D) → Through R old mid → Through R mid new → Through R old new
joined R old mid new before after = behind R after.0 old mid new before after.1

-- ---- an export that is read-only

pub not_both : (b : Bool) → b ≡ true → b ≡ false → ⊥
not_both true is not = cc
not_both false is not = cc

pub no_change : (e : Export) (h : NbdHeader) (asked : Result Task RequestError) → asked ≡ admitted e h → e.read_only ≡ true → asks_change asked ≡ false
no_change e h (Err why) is reads = refl
no_change e h (Ok (Read offset count)) is reads = refl
no_change e h (Ok Flush) is reads = refl
no_change e h (Ok (Write offset count durable)) is reads = (let no : ⊥ = not_both e.read_only reads ((admitted_sound e h (Write offset count durable) (sym is)).2) in absurd no)
no_change e h (Ok (Trim offset count durable)) is reads = (let no : ⊥ = not_both e.read_only reads ((admitted_sound e h (Trim offset count durable) (sym is)).1) in absurd no)
no_change e h (Ok (WriteZeroes offset count durable)) is reads = (let no : ⊥ = not_both e.read_only reads ((admitted_sound e h (WriteZeroes offset count durable) (sym is)).1) in absurd no)
