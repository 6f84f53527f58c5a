-- What is asked of a disk fits it.
use Rattle.std.proofs.Common.{◌≡◌, ◌≤◌, ◌+◌, ◌==◌, ℕ, Bool, true, false, Option, Some, None, Ok, length, refl, sym, ap, ◌∙◌, subst, arith, rules}
use Rattle.std.specs.Prelude.{if◌then◌else◌}
use Rattle.nbd_stream.specs.declared.export.Export.{Export}
use Rattle.nbd_stream.specs.declared.reply.RequestError.TheVariants.{Invalid, NoSpace}
use Rattle.nbd_stream.specs.declared.request.NbdHeader.{NbdHeader}
use Rattle.nbd_stream.specs.declared.task.NbdCommand.{NbdCommand}
use Rattle.nbd_stream.specs.declared.task.NbdCommand.TheVariants as command
use Rattle.nbd_stream.specs.declared.task.Task.{Task}
use Rattle.nbd_stream.specs.declared.task.Task.TheVariants.{Read, Write, Flush, Trim, WriteZeroes}
use Rattle.nbd_stream.specs.Frames.{NbdRequest, IsNbdRequest, counted_body_length}
use Rattle.nbd_stream.specs.Tasks.{admitted_by, command_from, is_durable, IsFor}
use Rattle.nbd_stream.specs.Disk.{IsInside, count_given, count_taken}
use Rattle.nbd_stream.specs.Exchanges.{header_of, task_of}
use Rattle.nbd_stream.proofs.TaskLemmas.{admitted_sound, change_sound, err_if, ok_if}

pub inside_of : (e : Export) (task : Task) (size : ℕ) → IsFor e task → size ≡ e.size → IsInside size task
inside_of e (Read o n) size is same = let its = is.0 in omega (arith, its.inside)
inside_of e (Write o n d) size is same = let its = is.0 in omega (arith, its.inside)
inside_of e Flush size is same = tt
inside_of e (Trim o n d) size is same = let its = is.0 in omega (arith, its.inside)
inside_of e (WriteZeroes o n d) size is same = let its = is.0 in omega (arith, its.inside)

pub room_for : (e : Export) (task : Task) (room : ℕ) → IsFor e task → e.maximum ≤ room → count_taken task + count_given task ≤ room
room_for e (Read o n) room is le = omega (arith, is.1)
room_for e (Write o n d) room is le = omega (arith, is.1)
room_for e Flush room is le = omega arith
room_for e (Trim o n d) room is le = omega arith
room_for e (WriteZeroes o n d) room is le = omega arith

-- ---- as many bytes as follow the header

writes : Option NbdCommand → Bool
writes None = false
writes (Some command.Read) = false
writes (Some command.Write) = true
writes (Some command.Disconnect) = false
writes (Some command.Flush) = false
writes (Some command.Trim) = false
writes (Some command.WriteZeroes) = false

by_tests : (a b c d f g : Bool) → (a ≡ true → b ≡ false) → b ≡ writes (if a then Some command.Read else (if b then Some command.Write else (if c then Some command.Disconnect else (
    if d then Some command.Flush else (if f then Some command.Trim else (if g then Some command.WriteZeroes else None))))))
unfolding writes
by_tests true b c d f g not = not refl
by_tests false true c d f g not = refl
by_tests false false true d f g not = refl
by_tests false false false true f g not = refl
by_tests false false false false true g not = refl
by_tests false false false false false true not = refl
by_tests false false false false false false not = refl

not_both : (code : ℕ) → (code == 0) ≡ true → (code == 1) ≡ false
not_both code e = search rules

write_code : (code : ℕ) → (code == 1) ≡ writes (command_from code)
write_code code = by_tests (code == 0) (code == 1) (code == 2) (code == 3) (code == 4) (code == 6) (not_both code)

no_body : (code count : ℕ) → (code == 1) ≡ false → 0 ≡ counted_body_length code count
no_body code count e = ap (λ (b : Bool). if b then count else 0) (sym e)

its_body : (code count : ℕ) → (code == 1) ≡ true → count ≡ counted_body_length code count
its_body code count e = ap (λ (b : Bool). if b then count else 0) (sym e)

taken_by : (k : Option NbdCommand) (e : Export) (h : NbdHeader) (task : Task) → (h.code == 1) ≡ writes k → admitted_by k e h ≡ Ok task → count_taken task ≡ counted_body_length h.code h.count
unfolding writes
taken_by None e h task code is = (let no : ⊥ = cc in absurd no)
taken_by (Some command.Disconnect) e h task code is = (let no : ⊥ = cc in absurd no)
taken_by (Some command.Read) e h task code is =
    let a = err_if _ Invalid _ task is in
    let b = ok_if _ (Read h.offset h.count) Invalid task a.1 in
    subst (λ (t : Task). count_taken t ≡ counted_body_length h.code h.count) b.1 (no_body h.code h.count code)
taken_by (Some command.Write) e h task code is =
    let a = err_if _ Invalid _ task is in
    let b = change_sound e h e.maximum NoSpace (Write h.offset h.count (is_durable h)) task a.1 in
    subst (λ (t : Task). count_taken t ≡ counted_body_length h.code h.count) b.same (its_body h.code h.count code)
taken_by (Some command.Flush) e h task code is =
    let a = err_if _ Invalid _ task is in
    let b = ok_if _ Flush Invalid task a.1 in
    subst (λ (t : Task). count_taken t ≡ counted_body_length h.code h.count) b.1 (no_body h.code h.count code)
taken_by (Some command.Trim) e h task code is =
    let a = err_if _ Invalid _ task is in
    let b = change_sound e h 4294967295 Invalid (Trim h.offset h.count (is_durable h)) task a.1 in
    subst (λ (t : Task). count_taken t ≡ counted_body_length h.code h.count) b.same (no_body h.code h.count code)
taken_by (Some command.WriteZeroes) e h task code is =
    let a = err_if _ Invalid _ task is in
    let b = change_sound e h 4294967295 NoSpace (WriteZeroes h.offset h.count (is_durable h)) task a.1 in
    subst (λ (t : Task). count_taken t ≡ counted_body_length h.code h.count) b.same (no_body h.code h.count code)

-- a request that is asked of a disk has as many bytes as the task takes
pub taken_of : (e : Export) (r : NbdRequest) (task : Task) → IsNbdRequest r → task_of e r ≡ Ok task → length r.body ≡ count_taken task
taken_of e r task is asked = is.body ∙ sym (taken_by (command_from r.code) e (header_of r) task (write_code r.code) asked)

pub inside : (e : Export) (r : NbdRequest) (task : Task) (size : ℕ) → task_of e r ≡ Ok task → size ≡ e.size → IsInside size task
inside e r task size asked same = inside_of e task size (admitted_sound e (header_of r) task asked) same
