use Rattle.std.proofs.Common.{◌≡◌, ◌++◌, ◌∙◌, ap, subst, sym, true}
use Rattle.std.specs.Prelude.{OnOk}
use Rattle.page_layout.specs.Page.{page, IsImage}
use Rattle.onfi_cycles.specs.Driver.{seen}
use Rattle.onfi_cycles.specs.Spelling.{read_cycles}
use Rattle.page_code.specs.Chip.{IsChipOf}
use Rattle.corrected_nand.specs.ChipBus.{PutsOut}
use Rattle.corrected_nand.specs.Shown.{ReadsAt}
use Rattle.corrected_nand.proofs.Sendings.{read_steady, read_put, on_ok}
use Rattle.corrected_nand.proofs.chip_driver.ChipDriverNoisyNand.read_page.Given.{Over}
use Rattle.corrected_nand.proofs.chip_driver.ChipDriverNoisyNand.read_page.Goals.{After-read_page}
use Rattle.corrected_nand.proofs.chip_driver.ChipDriverNoisyNand.read_page.Goals as goal

pub invariant_of-self : goal.invariant_of-self
invariant_of-self g c =
    let d = c.self.inside.driver in
    let s = read_steady g.B.ChipBus.chip g.B.ChipBus.keeps g.B.Bus.called g.met.B.ChipBus.steady d.bus c.read_page.new.self.bus (read_cycles c.args.row d.geometry.data_bytes d.geometry.spare_bytes)
    (c.read_page.new.body ++ c.read_page.new.spare) c.read_page.result c.read_page.ensures.sends in
    (subst (λ z. IsChipOf c.self.inside.geometry z) (sym c.read_page.ensures.geometry) c.self.invariant.0, λ k. s.geometry_is (sym s.keeps_is ∙ k) ∙ c.self.invariant.1 (sym s.keeps_is ∙ k))

pub returns-clause-honest : goal.returns-clause-honest
returns-clause-honest g c = rw (← c.self.view_is) (read_steady g.B.ChipBus.chip g.B.ChipBus.keeps g.B.Bus.called g.met.B.ChipBus.steady c.self.inside.driver.bus c.read_page.new.self.bus _ _ c.read_page.result c.read_page.ensures.sends).keeps_is

-- the cycles put out the page
puts_out : (g : Over) (c : After-read_page g) → OnOk c.read_page.result (g.B.ChipBus.keeps c.self.inside.driver.bus ≡ true
    → PutsOut (g.B.ChipBus.chip c.self.inside.driver.bus) (g.B.ChipBus.chip c.read_page.new.self.bus) c.args.row (page c.read_page.new.body c.read_page.new.spare))
puts_out g c =
    let d = c.self.inside.driver in
    let of = c.self.invariant.0 in
    read_put g.B.ChipBus.chip g.B.ChipBus.keeps g.B.Bus.called g.met.B.ChipBus.read d.bus c.read_page.new.self.bus c.self.inside.geometry c.args.row d.geometry.data_bytes d.geometry.spare_bytes c.read_page.new.body c.read_page.new.spare c.read_page.result
    c.self.invariant.1 (rw (← c.self.view_is) at c.requires.row_in) of.data_is of.spare_is
    (c.read_page.auto.body ∙ ((rw (← c.self.view_is) at c.requires.body_whole) ∙ sym of.data_is))
    (c.read_page.auto.spare ∙ ((rw (← c.self.view_is) at c.requires.outer_whole) ∙ sym of.spare_is)) c.read_page.ensures.sends

pub returns-clause-page : goal.returns-clause-page
returns-clause-page g c =
    let put = puts_out g (goal.at.returns-clause-page g c).After-read_page in
    rw (← c.self.view_is) (on_ok c.read_page.result put (λ f k. subst (λ z. ReadsAt z (g.B.ChipBus.chip c.self.inside.driver.bus).image c.args.row (page c.read_page.new.body c.read_page.new.spare)) (c.self.invariant.1 k) (f k).reads))

pub returns-clause-same : goal.returns-clause-same
returns-clause-same g c =
    let put = puts_out g (goal.at.returns-clause-same g c).After-read_page in
    rw (← c.self.view_is) (on_ok c.read_page.result put (λ f k. ap (seen c.self.inside.geometry) (f k).same))

pub returns-clause-whole : goal.returns-clause-whole
returns-clause-whole g c =
    let put = puts_out g (goal.at.returns-clause-whole g c).After-read_page in
    rw (← c.self.view_is) (on_ok c.read_page.result put (λ f k. subst (λ s. IsImage c.self.inside.geometry s.image) (sym (f k).same) (subst (λ z. IsImage z (g.B.ChipBus.chip c.self.inside.driver.bus).image) (c.self.invariant.1 k) (f k).whole)))
