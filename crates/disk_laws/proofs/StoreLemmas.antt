-- What is asked of the device of a store, through what guards its lost sectors and what opens it anew.
use Rattle.std.proofs.Common.{◌≡◌, inl, inr, ℕ, suc, zero, Bool, true, false, List, ◌++◌, Some, None, Result, Ok, Err, refl, sym, ap, subst, ◌∙◌}
use Rattle.std.specs.Prelude.{unwrap_or}
use Rattle.page_layout.specs.Flash.{Operation}
use Rattle.onfi_cycles.specs.Driver.{DriverState}
use Rattle.file_die.specs.Die.{FileState}
use Rattle.file_die.specs.Store.{Held}
use Rattle.nbd_stream.specs.declared.fault.DiskFault.{DiskFault}
use Rattle.nbd_stream.specs.declared.fault.DiskFault.TheVariants as fault
use Rattle.nbd_stream.specs.Through.{Times}
use Rattle.ftl_device.specs.declared.device.Device.{Device}
use Rattle.disk_server.specs.declared.guarded.GuardedSectors.{GuardedSectors}
use Rattle.disk_server.specs.Asked.{AsksCall}
use Rattle.disk_server.specs.Disk.{ChangesOne, IsDisk, holds}
use Rattle.disk_server.specs.Reopened.{AsksDevice, HasDevice, ReadsDevice, Reopened, SettlesCall, Terms, changes_in, changes_of, clears_of, flushes_of, reads_of, rests_of, terms_of}
use Rattle.disk_server.specs.Opened.{is_honest_in, view_in}
use Rattle.disk_laws.specs.CallsMade.{CallMade, IsRunOf, calls_made, this_call, times_made}
use Rattle.disk_laws.specs.Runs.{AsksOneOf, DeviceCalls, IsDiskCall, calls_of}
use Rattle.disk_laws.specs.Sessions.{AsksGuarded, AsksReopened, GuardedSessionLaw, ReopenedSessionLaw, StoreSessionLaw, device_asked, devices_asked, one_asked, sectors_asked}
use Rattle.disk_laws.proofs.RunOfLemmas.{each_more, run_below, run_joined, run_none, run_once}
use Rattle.disk_laws.proofs.SessionLemmas.{session}

-- ---- guarded

module _ {S : Type 0} (reads : S → S → Type 0) (changes flushes rests : S → Result (Unit {0}) DiskFault → S → Type 0) where
  abbrev Below : S → S → Type 0
  Below = AsksOneOf reads changes flushes rests

  module _ {K : Type 0} where
    one_guarded : (old new : GuardedSectors S K) (call : AsksGuarded reads changes flushes rests old new)
        → IsRunOf Below (sectors_asked reads changes flushes rests old new call) old.sectors new.sectors
    unfolding AsksCall sectors_asked
    one_guarded old new (inl (inl (inl same))) = run_none Below old.sectors new.sectors (ap (λ (d : GuardedSectors S K). d.sectors) same)
    one_guarded old new (inl (inl (inr asked))) = run_once Below old.sectors new.sectors (inl (inl asked.0))
    one_guarded old new (inl (inr (inl (result, inl over)))) = run_none Below old.sectors new.sectors (ap (λ (d : GuardedSectors S K). d.sectors) over.1.1)
    one_guarded old new (inl (inr (inl (result, inr asked)))) = run_once Below old.sectors new.sectors (inl (inr (inl (asked.0, asked.1))))
    one_guarded old new (inl (inr (inr (result, inl over)))) = run_none Below old.sectors new.sectors (ap (λ (d : GuardedSectors S K). d.sectors) over.1.1)
    one_guarded old new (inl (inr (inr (result, inr asked)))) = run_once Below old.sectors new.sectors (inl (inr (inr (result, asked.1))))
    one_guarded old new (inr (result, inl over)) = run_none Below old.sectors new.sectors (ap (λ (d : GuardedSectors S K). d.sectors) over.1.1)
    one_guarded old new (inr (result, inr asked)) = run_once Below old.sectors new.sectors (inr (result, asked.1))

    pub guarded_session : GuardedSessionLaw K reads changes flushes rests
    guarded_session = run_below (AsksGuarded reads changes flushes rests) Below (λ (d : GuardedSectors S K). d.sectors) (sectors_asked reads changes flushes rests) one_guarded

no_truth : true ≡ false → ⊥
no_truth e = cc

none_there : {A : Type 0} (x : A) → None ≡ Some x → ⊥
none_there x e = cc

-- ---- opened anew

module _ {S : Type 0} (held : S → Held) (honest full : S → Bool) (failed : S → ℕ) where
  abbrev DeviceCall : Device (DriverState (FileState S)) → Device (DriverState (FileState S)) → Type 0
  DeviceCall = IsDiskCall (view_in held honest failed)

  -- the device before calls, and that it was asked these
  record WasAsked (calls : List (CallMade DeviceCall)) (old : Reopened S) (last : Device (DriverState (FileState S))) : Type 0 where
    pub not_anew : old.reopened ≡ false
    pub first : Device (DriverState (FileState S))
    pub was : old.device ≡ Some first
    pub asked : IsRunOf DeviceCall calls first last

  same_some : (x y : Device (DriverState (FileState S))) → Some x ≡ Some y → x ≡ y
  same_some x y is = ap (λ o. unwrap_or o x) is

  module _ (old new : Reopened S) (plain : new.reopened ≡ false) (last : Device (DriverState (FileState S))) (there : new.device ≡ Some last) where
    -- a device that is there as a call has left it
    left_there : (terms : Terms) (next : ℕ) (left : Device (DriverState (FileState S))) → HasDevice terms old.reopened next (Some left) new → (old.reopened ≡ false) × (left ≡ last)
    left_there terms next left has = (sym has.reopened_is ∙ plain, same_some left last (sym has.device_is ∙ there))

    settled : (told : DiskFault) (terms : Terms) (next : ℕ) (left : Device (DriverState (FileState S))) (answer result : Result (Unit {0}) DiskFault)
        → SettlesCall held honest full failed told terms old.reopened next left answer result new → (old.reopened ≡ false) × (left ≡ last)
    settled told terms next left (Ok done) result is = left_there terms next left is.1
    settled told terms next left (Err fault.ReadOnly) result is = left_there terms next left is.1
    settled told terms next left (Err fault.NoSpace) result is = left_there terms next left is.1
    settled told terms next left (Err fault.Failed) result (inl anew) = absurd (no_truth (sym anew.1.there.reopened_is ∙ plain))
    settled told terms next left (Err fault.Failed) result (inr gone) = absurd (none_there last (sym gone.1.none.device_is ∙ there))

    -- one call of it, which led to what is there
    led : (device left : Device (DriverState (FileState S))) (made : DeviceCall device left) → old.device ≡ Some device → (old.reopened ≡ false) × (left ≡ last) → WasAsked (this_call DeviceCall device left made) old last
    led device left made was at = record {
      not_anew = at.0;
      first = device;
      was = was;
      asked = subst (λ d. IsRunOf DeviceCall (this_call DeviceCall device left made) device d) at.1 (run_once DeviceCall device left made);
    }

    asked_one : (asks : Device (DriverState (FileState S)) → Result (Unit {0}) DiskFault → Device (DriverState (FileState S)) → Type 0)
        (so : (d left : Device (DriverState (FileState S))) (answer : Result (Unit {0}) DiskFault) → asks d answer left → DeviceCall d left) (told : DiskFault) (result : Result (Unit {0}) DiskFault)
        (call : AsksDevice held honest full failed asks told old result new) → WasAsked (one_asked held honest full failed asks so told old result new call) old last
    asked_one asks so told result (inl gone) = absurd (none_there last (sym gone.same.device_is ∙ there))
    asked_one asks so told result (inr is) =
        led is.device is.left (so is.device is.left is.answer is.asked) is.was (settled told (terms_of old) old.next is.left is.answer result is.settles)

    one_reopened : (call : AsksReopened held honest full failed old new) → WasAsked (device_asked held honest full failed old new call) old last
    unfolding AsksCall changes_in ChangesOne device_asked
    one_reopened (inl (inl (inl gone))) = absurd (none_there last (sym gone.1.device_is ∙ there))
    one_reopened (inl (inl (inr is))) = led is.device is.left (inl (inl is.asked)) is.was (left_there (terms_of old) old.next is.left is.there)
    one_reopened (inl (inr (inl (result, (n, inl (command, is)))))) =
        asked_one (changes_of held honest failed n command) (λ d left answer asks. inl (inr (inl (answer, (n, inl (command, asks)))))) fault.NoSpace result is
    one_reopened (inl (inr (inl (result, (n, inr is))))) = asked_one (clears_of held honest failed n) (λ d left answer asks. inl (inr (inl (answer, (n, inr asks))))) fault.NoSpace result is
    one_reopened (inl (inr (inr (result, is)))) = asked_one (flushes_of held honest failed) (λ d left answer asks. inl (inr (inr (answer, asks)))) fault.Failed result is
    one_reopened (inr (result, is)) = asked_one (rests_of held honest failed) (λ d left answer asks. inr (answer, asks)) fault.Failed result is

  -- calls, and one more
  reopened_more : (old mid : Reopened S) (last : Device (DriverState (FileState S))) (calls more : List (CallMade DeviceCall)) (one : WasAsked more mid last)
      → WasAsked calls old one.first → WasAsked (calls ++ more) old last
  reopened_more old mid last calls more one before = record {
    not_anew = before.not_anew;
    first = before.first;
    was = before.was;
    asked = run_joined DeviceCall before.first one.first last calls more before.asked one.asked;
  }

  all_reopened : (n : ℕ) (old new : Reopened S) (times : Times (AsksReopened held honest full failed) n old new) → new.reopened ≡ false → (last : Device (DriverState (FileState S))) → new.device ≡ Some last
      → WasAsked (devices_asked held honest full failed (times_made (AsksReopened held honest full failed) n old new times)) old last
  unfolding Times times_made
  all_reopened zero old new same plain last there = record {
    not_anew = ap (λ (d : Reopened S). d.reopened) (sym same) ∙ plain;
    first = last;
    was = ap (λ (d : Reopened S). d.device) (sym same) ∙ there;
    asked = run_none DeviceCall last last refl;
  }
  all_reopened (suc n) old new (mid, before, call) plain last there =
      let one = one_reopened mid new plain last there call in
      let most = all_reopened n old mid before one.not_anew one.first one.was in
      let calls = times_made (AsksReopened held honest full failed) n old mid before in
      subst (λ c. WasAsked c old last) (each_more (AsksReopened held honest full failed) DeviceCall (device_asked held honest full failed) calls mid new call)
      (reopened_more old mid last (devices_asked held honest full failed calls) (device_asked held honest full failed mid new call) one most)

  pub reopened_session : ReopenedSessionLaw held honest full failed
  reopened_session old new (n, times) plain last there = (let all = all_reopened n old new times plain last there in (all.first, all.was, all.asked))

  -- calls that are just these are calls of a device that holds its array
  these : (first last : Device (DriverState (FileState S))) (calls asked : List (CallMade DeviceCall)) → IsRunOf DeviceCall calls first last → IsDisk (view_in held honest failed) first → holds (is_honest_in honest) last ≡ true → calls ≡ asked
      → (log : List Operation) × (run : DeviceCalls (view_in held honest failed) first log last) × (calls_made DeviceCall first last (calls_of (view_in held honest failed) first log last run) ≡ asked)
  these first last calls asked is was on same = (let s = session (view_in held honest failed) first last is.0 was on refl in (s.0, s.1, ap (calls_made DeviceCall first last) s.2 ∙ (is.1 ∙ same)))

  pub store_session : (K : Type 0) → StoreSessionLaw K held honest full failed
  store_session K old new asked plain last there on =
      let below = guarded_session (ReadsDevice (reads_of held honest failed)) (changes_in held honest full failed) (AsksDevice held honest full failed (flushes_of held honest failed) fault.Failed)
      (AsksDevice held honest full failed (rests_of held honest failed) fault.Failed) old new asked in
      let device = reopened_session old.sectors new.sectors below.0 plain last there in
      (device.0, device.1, λ was. these device.0 last _ _ device.2 was on (ap (devices_asked held honest full failed) below.1))
