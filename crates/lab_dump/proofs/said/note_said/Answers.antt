use Rattle.std.proofs.Common.{◌≡◌, ◌∙◌, ◌+◌, ◌<◌, All, List, ap, arith, refl, sym, subst, false, true, is_some, None, Some}
use Rattle.std.proofs.lemmas.List.Elements.{All-push}
use Rattle.lab_dump.specs.declared.said.SaidPage.{SaidPage}
use Rattle.page_layout.specs.Block.{is_broken}
use Rattle.page_layout.specs.Sound.{spelled}
use Rattle.lab_dump.specs.Said.{of_die, says}
use Rattle.image_check.proofs.PageReaderLemmas.{one_beyond}
use Rattle.lab_dump.proofs.CountLemmas.{whole_erased, whole_sound, broken_of}
use Rattle.lab_dump.proofs.SaidLemmas.{note_none, note_some, pushed_few, rows_more, says_so, says_whole}
use Rattle.lab_dump.proofs.said.note_said.Goals.{then-erased-via-then-erased, then-erased-via-else-erased+then-is_some}
use Rattle.lab_dump.proofs.said.note_said.Goals as goal

pub returns-then-erased : goal.returns-then-erased
returns-then-erased c = record {
  noted = λ image p before at er fo sp.
      let whole : is_broken p ≡ false = elim c.then-erased.branch [
        | then-erased-via-then-erased w ↦ whole_erased p (sym er ∙ w.if-erased.true)
        | then-erased-via-else-erased+then-is_some w ↦ whole_sound p (ap is_some (sym fo) ∙ (sym w.is_some.ensures ∙ w.if-is_some.true))
      ] in
      note_none c.args.geometry.now image c.args.row p c.args.said.now.items before at (says_whole c.args.geometry.now p whole);
  rows = rows_more c.args.row c.args.said.now.items;
  few = one_beyond _;
  room = refl;
}

pub returns-in-Some : goal.returns-in-Some
returns-in-Some c = record {
  noted = λ image p before at er fo sp.
      let g = c.args.geometry.now in
      let broken : is_broken p ≡ true = broken_of p (sym er ∙ c.if-erased.false) (ap is_some (sym fo) ∙ (sym c.is_some.ensures ∙ c.if-is_some.false)) in
      let saying : says g p ≡ Some c.in-Some.says = says_so g p broken ∙ (ap (λ s. of_die g (spelled s)) (sym sp) ∙ (sym c.spelled_of_die.ensures ∙ c.in-Some.is)) in
      c.push_reserved.ensures.items ∙ note_some g image c.args.row p c.in-Some.says c.args.said.now.items before at saying;
  rows = λ before.
      let row = c.args.row in
      subst (λ (xs : List SaidPage). All (λ x. x.row < row + 1) xs) (sym c.push_reserved.ensures.items)
      (All-push (λ (x : SaidPage). x.row < row + 1) c.args.said.now.items _ (rows_more row c.args.said.now.items before) (omega arith));
  few = pushed_few _ _ _ c.push_reserved.ensures.items;
  room = c.push_reserved.ensures.capacity;
}

pub returns-in_default : goal.returns-in_default
returns-in_default c = record {
  noted = λ image p before at er fo sp.
      let g = c.args.geometry.now in
      let broken : is_broken p ≡ true = broken_of p (sym er ∙ c.if-erased.false) (ap is_some (sym fo) ∙ (sym c.is_some.ensures ∙ c.if-is_some.false)) in
      let silent : says g p ≡ None = says_so g p broken ∙ (ap (λ s. of_die g (spelled s)) (sym sp) ∙ (sym c.spelled_of_die.ensures ∙ c.in_default.is)) in
      note_none g image c.args.row p c.args.said.now.items before at silent;
  rows = rows_more c.args.row c.args.said.now.items;
  few = one_beyond _;
  room = refl;
}
