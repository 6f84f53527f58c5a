-- Runs of a device.
use Rattle.std.proofs.Common.{◌≡◌, [], ◌∷◌, ◌++◌, refl, sym, ◌∙◌, ap, subst, suc, append_assoc}
use Rattle.promises.specs.Step.{ArrayState, ArrayRun}
use Rattle.promises.specs.Run.{DeviceView, state_of, Run, commands_of, replies_of, log_of, OneMoreEventLaw, RunJoinLaw, LastLaw, OneLogLaw}
use Rattle.promises.specs.Run.{AnswersLaw, StaysReadOnlyLaw, EachLaw, LogOfRunsLaw}
use Rattle.promises.proofs.StepLemmas.{read_only}
use Rattle.page_layout.proofs.FlashLemmas.{Leads-append, geometry-Leads}

pub run_join : RunJoinLaw
run_join old mid new [] ys h k = subst (λ d. Run d ys new) h k
run_join old mid new (e ∷ xs) ys h k = (h.0, run_join e.left mid new xs ys h.1 k)

pub one_more_event : OneMoreEventLaw
one_more_event old mid events event h k = run_join old mid event.left events (event ∷ []) h (k, refl)

pub last : LastLaw
last old new [] h = h
last old new (e ∷ events) h = last e.left new events h.1

pub one_log : OneLogLaw
one_log old new [] h = ap (λ (d : DeviceView). d.flash) h
one_log old new (e ∷ events) h = Leads-append old.flash e.left.flash new.flash e.piece (log_of events) h.0.leads (one_log e.left new events h.1)

pub answers : AnswersLaw
answers old new [] h = ap state_of h
answers old new (e ∷ events) h =
    let same : e.left.flash.geometry ≡ old.flash.geometry = geometry-Leads old.flash e.left.flash e.piece h.0.leads in
    (state_of e.left, h.0.step, subst (λ g. ArrayRun g (state_of e.left) (commands_of events) (replies_of events) (state_of new)) same (answers e.left new events h.1))

pub stays_read_only : StaysReadOnlyLaw
stays_read_only old new [] h ro = ap (λ (d : DeviceView). d.ro) h ∙ ro
stays_read_only old new (e ∷ events) h ro =
    let same : state_of e.left ≡ state_of old = read_only old.flash.geometry (state_of old) (state_of e.left) e.command e.reply ro h.0.step in
    stays_read_only e.left new events h.1 (ap (λ (s : ArrayState). s.ro) same ∙ ro)

pub each : EachLaw
each [] = (refl, refl)
each (e ∷ events) = let r = each events in (ap suc r.0, ap suc r.1)

pub logs : LogOfRunsLaw
logs [] ys = refl
logs (e ∷ xs) ys = ap (λ l. e.piece ++ l) (logs xs ys) ∙ sym (append_assoc e.piece (log_of xs) (log_of ys))
