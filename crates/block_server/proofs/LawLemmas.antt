-- What each part of the headline is for, and of the device that it begins with.
use Rattle.std.proofs.Common.{◌≡◌, ℕ, true, List, ◌∷◌, ◌++◌, Option, sym, ap, subst, ◌∙◌}
use Rattle.page_layout.specs.View.{View}
use Rattle.page_layout.specs.declared.geometry.Geometry.{Geometry}
use Rattle.page_layout.specs.Flash.{Flash, Operation, Program}
use Rattle.page_layout.specs.Recording.{Recording, Records}
use Rattle.promises.specs.Step as step
use Rattle.promises.specs.Step.{ArrayRun, Reply}
use Rattle.promises.specs.Legal.{IsLegal}
use Rattle.promises.specs.Run as runs
use Rattle.promises.specs.Run.{Run, commands_of, replies_of, log_of, state_of}
use Rattle.promises.proofs.LegalLemmas.{no_bad_block, not_twice}
use Rattle.promises.proofs.RunLemmas.{answers, one_log}
use Rattle.ftl_device.specs.Begin.{begun_ram, is_bad_in}
use Rattle.command_queue.specs.Exchanges.{commands_in, replies_in}
use Rattle.command_queue.specs.Run.{accepted_device}
use Rattle.command_queue.proofs.EventLemmas.{run_records}
use Rattle.command_queue.proofs.ToldLemmas.{until_known}
use Rattle.block_server.specs.Checked.{Headline, HeadlineHolds, HoldsTo, HasBusFailed}
use Rattle.block_server.specs.Laws.{OneArrayLaw, HeadlineAnswersLaw, HeadlineLeadsLaw, HeadlineBadLaw, HeadlineOnceLaw, BegunImageLaw, BegunRecordLaw, ServedRecordLaw, FailedCallLaw, BegunCountsLaw, ServedLaw, BackLaw, UnservedLaw}

pub one_array : OneArrayLaw
one_array g share capacity c s t xs h = (h.agrees, h.one)

pub headline_answers : HeadlineAnswersLaw
headline_answers g share capacity c s t xs h =
    let old : runs.DeviceView = accepted_device s c in
    let new : runs.DeviceView = record { flash = t; ro = h.ro; pinned = h.pinned } in
    let here : ArrayRun s.geometry (state_of old) (commands_of h.run.events) (replies_of h.run.events) (state_of new) = answers old new h.run.events h.run.run in
    subst (λ (rs : List Reply). ArrayRun s.geometry (state_of old) (commands_in xs) rs (state_of new)) h.run.replies
    (subst (λ (cs : List step.Command). ArrayRun s.geometry (state_of old) cs (replies_of h.run.events) (state_of new)) h.run.commands here)

pub headline_leads : HeadlineLeadsLaw
headline_leads g share capacity c s t xs h = one_log (accepted_device s c) (record { flash = t; ro = h.ro; pinned = h.pinned }) h.run.events h.run.run

pub headline_bad : HeadlineBadLaw
headline_bad g share capacity c s t xs before after op h cut =
    no_bad_block g s.image (is_bad_in c) before after op (subst (λ (l : List Operation). IsLegal g s.image (is_bad_in c) l) cut h.legal)

pub headline_once : HeadlineOnceLaw
headline_once g share capacity c s t xs before between after row p q left left' passed passed' h cut =
    not_twice g s.image (is_bad_in c) before between after row p q left left' passed passed' (subst (λ (l : List Operation). IsLegal g s.image (is_bad_in c) l) cut h.legal)

module _ {N : Type 0} (view : View N) where
  pub begun_image : BegunImageLaw view
  begun_image nand g share c first is h = (is.same h, is.begun ∙ ap (begun_ram g share c) (is.stale_is h))

  pub begun_record : BegunRecordLaw view
  begun_record nand g share c first is h = is.told h

  pub begun_counts : BegunCountsLaw view
  begun_counts nand g share c first is = (is.honest_is, is.failed_is)

  pub served_record : ServedRecordLaw view
  served_record nand g share capacity c first new xs is h holds =
      subst (λ (r : Option Recording). Records r (log_of holds.headline.run.events) (view.recorded new.engine.nand)) (begun_record nand g share c first is h)
      (run_records view first new holds.headline.run.events xs holds.each)

  pub failed_call : FailedCallLaw view
  failed_call old new x its = its.rose

module _ {N : Type 0} (view : View N) where
  pub served_law : ServedLaw view
  served_law nand g share capacity c unread left before after result given s = (
    s.commands,
    s.each,
    λ h known.
        let all = until_known (HoldsTo view nand g share capacity c s.first) (HasBusFailed view) s.exchanges s.last s.headline known h in
        subst (λ (f : Flash). Headline g share capacity c (view.flash nand) f s.exchanges) (ap view.flash (sym s.given_is)) all.headline,
  )

  pub back_law : BackLaw view
  back_law nand g given back = (back.honest_is, back.calm_is, back.sized, back.failed_is)

  pub unserved_law : UnservedLaw view
  unserved_law nand g capacity c why given h = (λ its. (its.refused h, λ other. its.same other h), λ its. (its.agrees h, its.same h))
