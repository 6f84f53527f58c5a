use Rattle.std.proofs.Common.{◌≡◌, ◌∙◌, Bool, subst, sym, true, ℕ}
use Rattle.std.specs.Prelude.{IfOk}
use Rattle.page_layout.specs.Flash.{Flash, Operation, Erase, block_at}
use Rattle.page_layout.specs.Recording.{asked_erase}
use Rattle.onfi_cycles.specs.Outcomes.{is_passed}
use Rattle.onfi_cycles.specs.Driver.{seen}
use Rattle.onfi_cycles.specs.Spelling.{erase_cycles}
use Rattle.page_code.specs.Chip.{IsChipOf}
use Rattle.corrected_nand.specs.ChipBus.{Did}
use Rattle.corrected_nand.proofs.Sendings.{Steady, operates_steady, did, erase_law, did_seen, whole_seen, if_ok, if_on}
use Rattle.corrected_nand.proofs.ToldLemmas.{gains, at_hand_in}
use Rattle.corrected_nand.proofs.chip_driver.ChipDriverNoisyNand.erase.Given.{Over}
use Rattle.corrected_nand.proofs.chip_driver.ChipDriverNoisyNand.erase.Goals.{After-erase-answer}
use Rattle.corrected_nand.proofs.chip_driver.ChipDriverNoisyNand.erase.Goals as goal

-- the erase, by whether it passed
abbrev erased : ℕ → Bool → Flash → Operation
erased block passed s = Erase block passed (block_at s block)

-- its cycles leave the law and the geometry
steady : (g : Over) (c : After-erase-answer g) → Steady g.B.ChipBus.chip g.B.ChipBus.keeps c.self.inside.driver.bus c.erase-answer.new.self.bus
steady g c =
    let d = c.self.inside.driver in
    operates_steady g.B.ChipBus.chip g.B.ChipBus.keeps g.B.Bus.called g.met.B.ChipBus.steady d.bus c.erase-answer.new.self.bus (erase_cycles d.geometry c.args.block) c.erase-answer.result c.erase-answer.ensures.sends

-- and what they did
did_erase : (g : Over) (c : After-erase-answer g)
    → IfOk c.erase-answer.result (λ outcome. g.B.ChipBus.keeps c.self.inside.driver.bus ≡ true → Did (erased c.args.block) (g.B.ChipBus.chip c.self.inside.driver.bus) (g.B.ChipBus.chip c.erase-answer.new.self.bus) outcome)
did_erase g c =
    let d = c.self.inside.driver in
    did g.B.ChipBus.chip g.B.ChipBus.keeps g.B.Bus.called (erased c.args.block) d.bus c.erase-answer.new.self.bus (erase_cycles d.geometry c.args.block) c.erase-answer.result
    (λ status outcome k says sent.
    erase_law g.B.ChipBus.chip g.B.ChipBus.keeps g.B.Bus.called g.met.B.ChipBus.erased d.bus c.erase-answer.new.self.bus c.self.inside.geometry d.geometry c.args.block status outcome
    c.self.invariant.0 c.self.invariant.1 (rw (← c.self.view_is) at c.requires.block_in) k says sent) c.erase-answer.ensures.sends

pub invariant_of-self : goal.invariant_of-self
invariant_of-self g c =
    let s = steady g (goal.at.invariant_of-self g c).After-erase-answer in
    (subst (λ z. IsChipOf c.self.inside.geometry z) (sym c.erase-answer.ensures.geometry) c.self.invariant.0, λ k. s.geometry_is (sym s.keeps_is ∙ k) ∙ c.self.invariant.1 (sym s.keeps_is ∙ k))

pub returns-clause-honest : goal.returns-clause-honest
returns-clause-honest g c = rw (← c.self.view_is) (steady g (goal.at.returns-clause-honest g c).After-erase-answer).keeps_is

pub returns-clause-step : goal.returns-clause-step
returns-clause-step g c =
    let here = (goal.at.returns-clause-step g c).After-erase-answer in
    let s = steady g here in
    rw (← c.self.view_is) (if_ok c.erase-answer.result (did_erase g here) (λ outcome f k. did_seen c.self.inside.geometry (erased c.args.block) (g.B.ChipBus.chip c.self.inside.driver.bus) (g.B.ChipBus.chip c.erase-answer.new.self.bus) outcome
    (c.self.invariant.1 k) (s.geometry_is k ∙ c.self.invariant.1 k) (f k)))

pub returns-clause-whole : goal.returns-clause-whole
returns-clause-whole g c =
    let here = (goal.at.returns-clause-whole g c).After-erase-answer in
    let s = steady g here in
    rw (← c.self.view_is) (if_on c.erase-answer.result (did_erase g here) (λ outcome f k. whole_seen c.self.inside.geometry (g.B.ChipBus.chip c.erase-answer.new.self.bus) (s.geometry_is k ∙ c.self.invariant.1 k) (f k).whole))

pub returns-clause-recorded : goal.returns-clause-recorded
returns-clause-recorded g c =
    rw (← c.self.view_is)
    (gains (g.B.ChipBus.keeps c.self.inside.driver.bus) c.erase-answer.result
    (λ outcome. Erase c.args.block (is_passed outcome)
    (block_at (seen c.self.inside.geometry (g.B.ChipBus.chip c.erase-answer.new.self.bus)) c.args.block)) (asked_erase c.self.inside.geometry c.args.block) c.self.inside.history.told
    c.of-self-inside.result.told c.of-self-inside.ensures)

pub returns-clause-cut : goal.returns-clause-cut
returns-clause-cut g c =
    rw (← c.self.view_is)
    (at_hand_in (g.B.ChipBus.keeps c.self.inside.driver.bus) c.erase-answer.result
    (λ outcome. Erase c.args.block (is_passed outcome)
    (block_at (seen c.self.inside.geometry (g.B.ChipBus.chip c.erase-answer.new.self.bus)) c.args.block)) (asked_erase c.self.inside.geometry c.args.block) c.self.inside.history.told
    c.of-self-inside.result.told c.of-self-inside.ensures)
