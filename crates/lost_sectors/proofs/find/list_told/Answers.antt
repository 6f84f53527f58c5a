use Rattle.std.proofs.Common.{◌≡◌, ◌∙◌, ◌-◌, ◌<◌, ◌≤◌, ◌+◌, ℕ, Bool, List, length, ap, sym, subst, arith, rules}
use Rattle.translation_pages.specs.TranslationPage.{entry_at}
use Rattle.file_die.specs.Store.{Held}
use Rattle.image_check.specs.Agrees.{Agrees}
use Rattle.lost_sectors.specs.Lost.{Adds, DropsNone, is_told}
use Rattle.lost_sectors.proofs.FindLemmas.{adds_set, adds_skip, drops_set, up_to}
use Rattle.lost_sectors.proofs.find.list_told.Goals.{then-branch, else-branch}
use Rattle.lost_sectors.proofs.find.list_told.Goals as goal

pub loop-sector-preserved : goal.loop-sector-preserved
loop-sector-preserved g c =
    let loop = c.loop-sector.invariant in
    let k : ℕ = c.loop-sector.sector in
    let first : ℕ = c.args.first in
    let order : first ≤ k = c.loop-sector.auto.sector in
    let within : k < length c.loop-sector.lost = omega (arith, c.loop-sector.auto.lost, c.requires.sectors, c.requires.ends, c.loop-sector-test.true) in
    let store = g.S.Store.held c.args.store.now in
    let p : ℕ → Bool = λ n. is_told store.pages c.args.sequence (entry_at c.args.body.now (n - first)) n in
    record {
      looks = search rules;
      settled = search rules;
      adds = λ h capacity agrees. (
          let told : p k ≡ c.in_ok-is_told.field-0 =
          ap (λ e. is_told store.pages c.args.sequence e k) (sym c.entry-named.ensures.value)
          ∙ sym (subst (λ (s : Held). c.in_ok-is_told.field-0 ≡ is_told s.pages c.args.sequence c.entry-named.result k) (loop.looks.same h)
          (c.in_ok-is_told.ensures.told (loop.looks.as_honest ∙ h) capacity (subst (λ (s : Held). Agrees c.args.geometry.now capacity s.pages c.args.certificate.now) (sym (loop.looks.same h)) agrees))) in
          elim c.if-branch.branch [
            | then-branch w ↦ subst (λ (xs : List Bool). Adds p first (k + 1) c.args.lost.now xs) (sym w.lost-is) (adds_set p first k c.args.lost.now c.loop-sector.lost order within (told ∙ w.if-branch.true) (loop.adds h capacity agrees))
            | else-branch w ↦ subst (λ (xs : List Bool). Adds p first (k + 1) c.args.lost.now xs) (sym w.lost-is) (adds_skip p first k c.args.lost.now c.loop-sector.lost order (told ∙ w.if-branch.false) (loop.adds h capacity agrees))
          ]);
      kept = elim c.if-branch.branch [
        | then-branch w ↦ subst (λ (xs : List Bool). DropsNone c.args.lost.now xs) (sym w.lost-is) (drops_set c.args.lost.now c.loop-sector.lost k within loop.kept)
        | else-branch w ↦ subst (λ (xs : List Bool). DropsNone c.args.lost.now xs) (sym w.lost-is) loop.kept
      ];
    }

pub returns-clause-adds : goal.returns-clause-adds
returns-clause-adds g c h capacity agrees =
    let p : ℕ → Bool = λ n. is_told (g.S.Store.held c.args.store.now).pages c.args.sequence (entry_at c.args.body.now (n - c.args.first)) n in
    let all : c.loop-sector.sector ≡ c.args.end = omega (arith, c.loop-sector-test.false, c.loop-sector.auto.sector-end c.requires.order) in
    subst (λ n. Adds p c.args.first n c.args.lost.now c.loop-sector.lost) all (c.loop-sector.invariant.adds h capacity agrees)

pub returns-in_err-is_told-clause-only : goal.returns-in_err-is_told-clause-only
returns-in_err-is_told-clause-only g c h capacity agrees =
    let p : ℕ → Bool = λ n. is_told (g.S.Store.held c.args.store.now).pages c.args.sequence (entry_at c.args.body.now (n - c.args.first)) n in
    up_to p c.args.first c.loop-sector.sector c.args.end c.args.lost.now c.loop-sector.lost c.loop-sector.auto.sector (omega (arith, c.loop-sector-test.true)) (c.loop-sector.invariant.adds h capacity agrees)

pub returns-clause-only : goal.returns-clause-only
returns-clause-only g c h capacity agrees =
    let p : ℕ → Bool = λ n. is_told (g.S.Store.held c.args.store.now).pages c.args.sequence (entry_at c.args.body.now (n - c.args.first)) n in
    up_to p c.args.first c.loop-sector.sector c.args.end c.args.lost.now c.loop-sector.lost c.loop-sector.auto.sector (c.loop-sector.auto.sector-end c.requires.order) (c.loop-sector.invariant.adds h capacity agrees)
