use Rattle.std.proofs.Common.{◌≡◌, ◌∙◌, ap, refl, subst, take}
use Rattle.page_layout.specs.declared.geometry.Geometry.{Geometry}
use Rattle.page_layout.specs.Geometry.{entries}
use Rattle.onfi_cycles.specs.Cycles.{page_of}
use Rattle.file_die.specs.Store.{page_in}
use Rattle.crash_recovery.proofs.Kept.{keeps_done, keeps_undone, looks_failed}
use Rattle.crash_recovery.proofs.LookLemmas.{named_word}
use Rattle.crash_recovery.proofs.look.is_named.Goals as goal

pub load-requires-clause-in_range : goal.load-requires-clause-in_range
load-requires-clause-in_range g c = rw c.requires.look.geometry c.requires.in_range

pub returns-in_err-load-clause-looks : goal.returns-in_err-load-clause-looks
returns-in_err-load-clause-looks g c =
    looks_failed _ _ _ _ _ c.from_residual.result c.from_residual.ensures.0
    (record { same = λ h. (c.in_err-load.ensures.loads h).same; keeps = keeps_undone _ _ _ _ _ c.load.ensures.geometry c.load.ensures.honest c.in_err-load.ensures.rose })

pub returns-clause-looks : goal.returns-clause-looks
returns-clause-looks g c = record { same = λ h. (c.in_ok-load.ensures.loads h).same; keeps = keeps_done _ _ _ _ _ c.load.ensures.geometry c.load.ensures.honest c.in_ok-load.ensures.settled }

pub returns-clause-named : goal.returns-clause-named
returns-clause-named g c h is =
    c.names_grown.ensures
    ∙ named_word c.args.geometry.now _ c.args.block c.args.row (entries c.args.geometry.now) _ c.load.new.page c.split_at.result.0.now is
    (subst (λ (x : Geometry). page_of x c.load.new.page ≡ page_in (g.S.Store.held c.args.store.now).pages c.args.row) c.requires.look.geometry ((c.in_ok-load.ensures.loads h).gave refl))
    (c.split_at.ensures.front ∙ ap (λ n. take n c.load.new.page) c.data_bytes.ensures)
    refl refl
