use Rattle.std.proofs.Common.{◌≡◌, ◌∙◌, ap, sym, subst, ℕ, ◌*◌, ◌-◌, ◌<◌, false}
use Rattle.page_layout.specs.declared.geometry.Geometry.{Geometry}
use Rattle.page_layout.specs.Geometry.{page_bytes, row_count}
use Rattle.page_layout.specs.Flash.{Operation, Program}
use Rattle.onfi_cycles.specs.Cycles.{Command, Programs, page_of}
use Rattle.nand_die.specs.contracts.die.Die.{the_view}
use Rattle.nand_die.specs.ChipValue.{Acts}
use Rattle.nand_die.specs.Stopping.{IsStop}
use Rattle.nand_die.specs.Tape.{IsTapeOf, tape_room_left, next_record, pages_of, told_by}
use Rattle.nand_die.specs.DieValue.{DieValue, chip_of, die_of, done_as, due_now}
use Rattle.nand_die.proofs.StopLemmas.{run_erase, run_other, run_program}
use Rattle.nand_die.proofs.die.Die.run.Goals as goal

pub keep_page-requires : goal.keep_page-requires
keep_page-requires c =
    let here = sym c.geometry-geometry.ensures in
    record { of = subst (λ (g : Geometry). IsTapeOf g c.self.inside.tape) here c.self.invariant.1; whole = c.in-Program.ensures.1 ∙ ap page_bytes here }

pub page-left-requires : goal.page-left-requires
page-left-requires c = subst (λ (g : Geometry). c.in-Program.row < row_count g) (sym c.command-answer.ensures.same) c.in-Program.ensures.2

pub note_program-requires : goal.note_program-requires
note_program-requires c = record { of = c.keep_page.ensures.of; whole = c.page-left.ensures.size ∙ ap page_bytes (c.command-answer.ensures.same ∙ sym c.geometry-geometry.ensures) }

pub block-left-requires : goal.block-left-requires
block-left-requires c = subst (λ (g : Geometry). c.in-Erase.block < g.blocks) (sym c.command-answer-in-Erase.ensures.same) c.in-Erase.ensures.1

pub note_erase-requires : goal.note_erase-requires
note_erase-requires c = record {
  of = subst (λ (g : Geometry). IsTapeOf g c.self.inside.tape) (sym c.geometry-geometry.ensures) c.self.invariant.1;
  whole = c.block-left.ensures.size ∙ ap (λ (g : Geometry). g.pages * page_bytes g) (c.command-answer-in-Erase.ensures.same ∙ sym c.geometry-geometry.ensures);
}

pub invariant_of-self : goal.invariant_of-self
invariant_of-self c =
    let i = c.self.inside in
    let same = c.command-answer.ensures.same in (
      subst (λ (g : Geometry). IsStop g i.stop) (sym same) c.self.invariant.0,
      subst (λ (g : Geometry). IsTapeOf g c.note_program.new.tape) (c.geometry-geometry.ensures ∙ sym same) c.note_program.ensures.of,
    )

pub invariant_of-self-in-Erase : goal.invariant_of-self-in-Erase
invariant_of-self-in-Erase c = (
  subst (λ (g : Geometry). IsStop g c.self.inside.stop) (sym c.command-answer-in-Erase.ensures.same) c.self.invariant.0,
  subst (λ (g : Geometry). IsTapeOf g c.note_erase.new.tape) (c.geometry-geometry.ensures ∙ sym c.command-answer-in-Erase.ensures.same) c.note_erase.ensures.of,
)

pub invariant_of-self-in-Other : goal.invariant_of-self-in-Other
invariant_of-self-in-Other c = subst (λ (g : Geometry). IsStop g c.self.inside.stop × IsTapeOf g c.self.inside.tape) (sym c.command.ensures.same) c.self.invariant

pub returns-in-Program : goal.returns-in-Program
returns-in-Program c =
    let i = c.self.inside in
    let d : DieValue = the_view i in
    let g : Geometry = c.geometry-geometry.result in
    let row : ℕ = c.in-Program.row in
    let handed = c.in-Program.page.now in
    let left = c.page-left.result.now in
    let passed = c.passed-passed.result in
    let op : Operation = Program row (page_of g handed) passed (page_of g left) in
    let runs : i.stopped ≡ false = ap (λ (x : DieValue). x.stopped) c.self.view_is ∙ c.requires in
    let is = c.in-Program.ensures.0 ∙ ap (λ (h : Geometry). Programs row (page_of h handed)) (sym c.geometry-geometry.ensures) in
    let is_left = c.page-left.ensures.page ∙ ap (λ (h : Geometry). page_of h left) (c.command-answer.ensures.same ∙ sym c.geometry-geometry.ensures) in
    let told = c.note_program.ensures.told handed c.keep_page.ensures.kept
    ∙ (ap (λ (k : ℕ). next_record k op (told_by c.keep_page.new.tape)) c.keep_page.ensures.free ∙ ap (next_record (tape_room_left i.tape) op) c.keep_page.ensures.told) in
    let free = c.note_program.ensures.free ∙ ap (λ (k : ℕ). k - 1) c.keep_page.ensures.free in
    record {
      new = subst (λ (x : DieValue). die_of c.command-answer.new.self i.stop i.left i.stopped i.failures (told_by c.note_program.new.tape) (tape_room_left c.note_program.new.tape) ≡ done_as x (due_now x (Command c.args.code)) x.left) c.self.view_is
          (run_program d (due_now d (Command c.args.code)) row (page_of g handed) (page_of g left) c.command-answer.new.self (told_by c.note_program.new.tape) (tape_room_left c.note_program.new.tape) passed
          runs is c.command-answer.ensures.does c.passed-passed.ensures is_left told free);
      acts = subst (λ (x : DieValue). Acts (due_now x (Command c.args.code)) (chip_of x) c.command-answer.new.self c.command-answer.result) c.self.view_is c.command-answer.ensures;
    }

pub returns-in-Erase : goal.returns-in-Erase
returns-in-Erase c =
    let i = c.self.inside in
    let d : DieValue = the_view i in
    let g : Geometry = c.geometry-geometry.result in
    let done = c.command-answer-in-Erase in
    let left = pages_of g g.pages c.block-left.result.now in
    let tape = c.note_erase.new.tape in
    let runs : i.stopped ≡ false = ap (λ (x : DieValue). x.stopped) c.self.view_is ∙ c.requires in
    let is_left = c.block-left.ensures.pages ∙ ap (λ (h : Geometry). pages_of h h.pages c.block-left.result.now) (done.ensures.same ∙ sym c.geometry-geometry.ensures) in
    record {
      new = subst (λ (x : DieValue). die_of done.new.self i.stop i.left i.stopped i.failures (told_by tape) (tape_room_left tape) ≡ done_as x (due_now x (Command c.args.code)) x.left) c.self.view_is
          (run_erase d (due_now d (Command c.args.code)) c.in-Erase.block left done.new.self (told_by tape) (tape_room_left tape) c.passed-passed-in-Erase.result
          runs c.in-Erase.ensures.0 done.ensures.does c.passed-passed-in-Erase.ensures is_left c.note_erase.ensures.told c.note_erase.ensures.free);
      acts = subst (λ (x : DieValue). Acts (due_now x (Command c.args.code)) (chip_of x) done.new.self done.result) c.self.view_is done.ensures;
    }

pub returns-in-Other : goal.returns-in-Other
returns-in-Other c =
    let i = c.self.inside in
    let d : DieValue = the_view i in
    let runs : i.stopped ≡ false = ap (λ (x : DieValue). x.stopped) c.self.view_is ∙ c.requires in
    record {
      new = subst (λ (x : DieValue). die_of c.command.new.self i.stop i.left i.stopped i.failures (told_by i.tape) (tape_room_left i.tape) ≡ done_as x (due_now x (Command c.args.code)) x.left) c.self.view_is
          (run_other d (due_now d (Command c.args.code)) c.command.new.self runs c.in-Other.ensures c.command.ensures.does);
      acts = subst (λ (x : DieValue). Acts (due_now x (Command c.args.code)) (chip_of x) c.command.new.self c.command.result) c.self.view_is c.command.ensures;
    }
