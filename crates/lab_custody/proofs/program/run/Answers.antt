use Rattle.std.proofs.Common.{inl, inr}
use Rattle.lab_custody.specs.declared.words.Custody.TheVariants as custody
use Rattle.lab_custody.proofs.program.run.Goals as goal

pub returns-in-Err-verify_command : goal.returns-in-Err-verify_command
returns-in-Err-verify_command g c =
    let is = c.in-Ok-Verify.field-0-is in
    let asked = c.in-Ok-Verify.ensures in
    let undone = c.in-Err-verify_command.ensures.fault in
    inl (custody.Verify c.in-Ok-Verify.read, rw is at asked, (c.in-Err-verify_command.ensures.kept, inr (record { why = c.in-Err-verify_command.fault; is = rw is at undone; told = c.tell.ensures })))

pub returns-in-Ok-Reported : goal.returns-in-Ok-Reported
returns-in-Ok-Reported g c =
    let is = c.in-Ok-Reported.field-0-is in
    let asked = c.in-Ok-Reported.ensures in
    let ran = c.run_reported.ensures in
    inl (custody.Reported c.in-Ok-Reported.asked, rw is at asked, rw is at ran)

pub returns-in-Ok-Plain : goal.returns-in-Ok-Plain
returns-in-Ok-Plain g c =
    let asked = c.in-Ok-Plain.ensures in
    inl (custody.Plain, rw c.in-Ok-Plain.field-0-is at asked, c.run.ensures)
