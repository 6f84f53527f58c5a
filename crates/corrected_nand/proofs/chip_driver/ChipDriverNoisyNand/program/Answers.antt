use Rattle.std.proofs.Common.{◌≡◌, ◌∙◌, Bool, subst, sym, take, true, ℕ}
use Rattle.std.specs.Prelude.{IfOk}
use Rattle.page_layout.specs.Page.{Page, page}
use Rattle.page_layout.specs.Flash.{Flash, Operation, Program, page_at}
use Rattle.page_layout.specs.Recording.{asked_program}
use Rattle.onfi_cycles.specs.Outcomes.{is_passed}
use Rattle.onfi_cycles.specs.Spelling.{program_cycles}
use Rattle.page_code.specs.Chip.{IsChipOf}
use Rattle.corrected_nand.specs.ChipBus.{Did}
use Rattle.corrected_nand.proofs.Sendings.{Steady, operates_steady, did, program_law, did_seen, whole_seen, if_ok, if_on, plain_length}
use Rattle.corrected_nand.proofs.ToldLemmas.{gains, at_hand_in}
use Rattle.corrected_nand.proofs.chip_driver.ChipDriverNoisyNand.program.Given.{Over}
use Rattle.corrected_nand.proofs.chip_driver.ChipDriverNoisyNand.program.Goals.{After-program-answer}
use Rattle.corrected_nand.proofs.chip_driver.ChipDriverNoisyNand.program.Goals as goal

-- the program of a page, by whether it passed
abbrev programmed : ℕ → Page → Bool → Flash → Operation
programmed row page passed s = Program row page passed (page_at s row)

-- its cycles leave the law and the geometry
steady : (g : Over) (c : After-program-answer g) → Steady g.B.ChipBus.chip g.B.ChipBus.keeps c.self.inside.driver.bus c.program-answer.new.self.bus
steady g c =
    operates_steady g.B.ChipBus.chip g.B.ChipBus.keeps g.B.Bus.called g.met.B.ChipBus.steady c.self.inside.driver.bus c.program-answer.new.self.bus
    (program_cycles c.args.row c.args.body.now c.args.outer.now) c.program-answer.result c.program-answer.ensures.sends

-- and what they did
did_program : (g : Over) (c : After-program-answer g)
    → IfOk c.program-answer.result (λ outcome. g.B.ChipBus.keeps c.self.inside.driver.bus ≡ true
    → Did (programmed c.args.row (page c.args.body.now (take c.self.inside.geometry.spare_bytes c.args.outer.now))) (g.B.ChipBus.chip c.self.inside.driver.bus) (g.B.ChipBus.chip c.program-answer.new.self.bus) outcome)
did_program g c =
    let d = c.self.inside.driver in
    let h = c.self.inside.geometry in
    did g.B.ChipBus.chip g.B.ChipBus.keeps g.B.Bus.called (programmed c.args.row (page c.args.body.now (take h.spare_bytes c.args.outer.now))) d.bus c.program-answer.new.self.bus (program_cycles c.args.row c.args.body.now c.args.outer.now) c.program-answer.result
    (λ status outcome k says sent.
    program_law g.B.ChipBus.chip g.B.ChipBus.keeps g.B.Bus.called g.met.B.ChipBus.programmed d.bus c.program-answer.new.self.bus h c.args.row c.args.body.now c.args.outer.now (take h.spare_bytes c.args.outer.now) status outcome c.self.invariant.1
    (rw (← c.self.view_is) at c.requires.row_in) (rw (← c.self.view_is) at c.requires.body_whole) (plain_length h c.args.outer.now (rw (← c.self.view_is) at c.requires.outer_whole)) (rw (← c.self.view_is) at c.requires.is_coded) k says sent) c.program-answer.ensures.sends

pub invariant_of-self : goal.invariant_of-self
invariant_of-self g c =
    let s = steady g (goal.at.invariant_of-self g c).After-program-answer in
    (subst (λ z. IsChipOf c.self.inside.geometry z) (sym c.program-answer.ensures.geometry) c.self.invariant.0, λ k. s.geometry_is (sym s.keeps_is ∙ k) ∙ c.self.invariant.1 (sym s.keeps_is ∙ k))

pub returns-clause-honest : goal.returns-clause-honest
returns-clause-honest g c = rw (← c.self.view_is) (steady g (goal.at.returns-clause-honest g c).After-program-answer).keeps_is

pub returns-clause-step : goal.returns-clause-step
returns-clause-step g c =
    let here = (goal.at.returns-clause-step g c).After-program-answer in
    let s = steady g here in
    let h = c.self.inside.geometry in
    let op = programmed c.args.row (page c.args.body.now (take h.spare_bytes c.args.outer.now)) in
    rw (← c.self.view_is) (if_ok c.program-answer.result (did_program g here) (λ outcome f k. did_seen h op (g.B.ChipBus.chip c.self.inside.driver.bus) (g.B.ChipBus.chip c.program-answer.new.self.bus) outcome
    (c.self.invariant.1 k) (s.geometry_is k ∙ c.self.invariant.1 k) (f k)))

pub returns-clause-whole : goal.returns-clause-whole
returns-clause-whole g c =
    let here = (goal.at.returns-clause-whole g c).After-program-answer in
    let s = steady g here in
    rw (← c.self.view_is) (if_on c.program-answer.result (did_program g here) (λ outcome f k. whole_seen c.self.inside.geometry (g.B.ChipBus.chip c.program-answer.new.self.bus) (s.geometry_is k ∙ c.self.invariant.1 k) (f k).whole))

pub returns-clause-recorded : goal.returns-clause-recorded
returns-clause-recorded g c =
    rw (← c.self.view_is)
    (gains (g.B.ChipBus.keeps c.self.inside.driver.bus) c.program-answer.result
    (λ outcome. Program c.args.row (page c.args.body.now (take c.self.inside.geometry.spare_bytes c.args.outer.now)) (is_passed outcome)
    (page_at (g.B.ChipBus.chip c.program-answer.new.self.bus) c.args.row)) (asked_program c.args.row (page c.args.body.now (take c.self.inside.geometry.spare_bytes c.args.outer.now))) c.self.inside.history.told c.of-self-inside.result.told
    c.of-self-inside.ensures)

pub returns-clause-cut : goal.returns-clause-cut
returns-clause-cut g c =
    rw (← c.self.view_is)
    (at_hand_in (g.B.ChipBus.keeps c.self.inside.driver.bus) c.program-answer.result
    (λ outcome. Program c.args.row (page c.args.body.now (take c.self.inside.geometry.spare_bytes c.args.outer.now)) (is_passed outcome)
    (page_at (g.B.ChipBus.chip c.program-answer.new.self.bus) c.args.row)) (asked_program c.args.row (page c.args.body.now (take c.self.inside.geometry.spare_bytes c.args.outer.now))) c.self.inside.history.told c.of-self-inside.result.told
    c.of-self-inside.ensures)
