-- What is asked of a disk is for it.
use Rattle.std.proofs.Common.{◌≡◌, ◌<◌, ◌≤◌, ◌+◌, ◌==◌, ◌&&◌, nat_lt, nat_le, ℕ, Bool, true, false, Option, Some, None, Result, Ok, Err, refl, subst, rules}
use Rattle.std.specs.Prelude.{if◌then◌else◌}
use Rattle.nbd_stream.specs.declared.export.Export.{Export}
use Rattle.nbd_stream.specs.declared.reply.RequestError.{RequestError}
use Rattle.nbd_stream.specs.declared.reply.RequestError.TheVariants.{NotPermitted, Invalid, NoSpace}
use Rattle.nbd_stream.specs.declared.request.NbdHeader.{NbdHeader}
use Rattle.nbd_stream.specs.declared.task.NbdCommand.{NbdCommand}
use Rattle.nbd_stream.specs.declared.task.NbdCommand.TheVariants as command
use Rattle.nbd_stream.specs.declared.task.Task.{Task}
use Rattle.nbd_stream.specs.declared.task.Task.TheVariants.{Read, Write, Flush, Trim, WriteZeroes}
use Rattle.nbd_stream.specs.Tasks.{command_from, is_within, is_durable, change_of, admitted_by, HasRange, IsFor, AdmittedLaw}

pub err_if : (b : Bool) (err : RequestError) (r : Result Task RequestError) (t : Task) → (if b then Err err else r) ≡ Ok t → (b ≡ false) × (r ≡ Ok t)
err_if true err r t e = (let no : ⊥ = cc in absurd no)
err_if false err r t e = (refl, e)

pub ok_if : (b : Bool) (x : Task) (err : RequestError) (t : Task) → (if b then Ok x else Err err) ≡ Ok t → (b ≡ true) × (x ≡ t)
ok_if true x err t e = (refl, cc)
ok_if false x err t e = (let no : ⊥ = cc in absurd no)

both : (a b : Bool) → (a && b) ≡ true → (a ≡ true) × (b ≡ true)
both a b e = search rules

pub below : (m n : ℕ) → nat_lt m n ≡ true → m < n
below m n e = search rules

pub at_most : (m n : ℕ) → nat_le m n ≡ true → m ≤ n
at_most m n e = search rules

pub not_below : (m n : ℕ) → nat_lt m n ≡ false → n ≤ m
not_below m n e = search rules

range_of : (e : Export) (h : NbdHeader) → is_within e h ≡ true → HasRange e h.offset h.count
range_of e h is =
    let parts = both (nat_lt 0 h.count) (nat_le (h.offset + h.count) e.size) is in
    record { some = below 0 h.count parts.0; inside = at_most (h.offset + h.count) e.size parts.1 }

-- a change that is asked
pub record Changes (e : Export) (h : NbdHeader) (most : ℕ) (asked task : Task) : Type 0 where
  pub same : asked ≡ task
  pub writable : e.read_only ≡ false
  pub range : HasRange e h.offset h.count
  pub few : h.count ≤ most

pub change_sound : (e : Export) (h : NbdHeader) (most : ℕ) (past : RequestError) (asked task : Task) → change_of e h most past asked ≡ Ok task → Changes e h most asked task
change_sound e h most past asked task is =
    let a = err_if e.read_only NotPermitted _ task is in
    let b = err_if (h.count == 0) Invalid _ task a.1 in
    let c = err_if (nat_lt most h.count) Invalid _ task b.1 in
    let d = ok_if (is_within e h) asked past task c.1 in
    record { same = d.1; writable = a.0; range = range_of e h d.0; few = not_below most h.count c.0 }

by_command : (command : Option NbdCommand) (e : Export) (h : NbdHeader) (task : Task) → admitted_by command e h ≡ Ok task → IsFor e task
by_command None e h task is = (let no : ⊥ = cc in absurd no)
by_command (Some command.Disconnect) e h task is = (let no : ⊥ = cc in absurd no)
by_command (Some command.Read) e h task is =
    let a = err_if (nat_lt 1 h.flags) Invalid _ task is in
    let b = ok_if (nat_le h.count e.maximum && is_within e h) (Read h.offset h.count) Invalid task a.1 in
    let parts = both (nat_le h.count e.maximum) (is_within e h) b.0 in
    subst (IsFor e) b.1 (range_of e h parts.1, at_most h.count e.maximum parts.0)
by_command (Some command.Write) e h task is =
    let a = err_if (nat_lt 1 h.flags) Invalid _ task is in
    let b = change_sound e h e.maximum NoSpace (Write h.offset h.count (is_durable h)) task a.1 in
    subst (IsFor e) b.same (b.range, b.few, b.writable)
by_command (Some command.Flush) e h task is =
    let a = err_if (nat_lt 1 h.flags) Invalid _ task is in
    let b = ok_if (h.offset == 0 && h.count == 0) Flush Invalid task a.1 in
    subst (IsFor e) b.1 tt
by_command (Some command.Trim) e h task is =
    let a = err_if (nat_lt 1 h.flags) Invalid _ task is in
    let b = change_sound e h 4294967295 Invalid (Trim h.offset h.count (is_durable h)) task a.1 in
    subst (IsFor e) b.same (b.range, b.writable)
by_command (Some command.WriteZeroes) e h task is =
    let a = err_if (nat_lt 3 h.flags) Invalid _ task is in
    let b = change_sound e h 4294967295 NoSpace (WriteZeroes h.offset h.count (is_durable h)) task a.1 in
    subst (IsFor e) b.same (b.range, b.writable)

pub admitted_sound : AdmittedLaw
admitted_sound e h task is = by_command (command_from h.code) e h task is
