use Rattle.std.proofs.Common.{◌∙◌, ap, false, inl, inr, refl, subst, sym}
use Rattle.disk_server.specs.Synced.{after_sync}
use Rattle.disk_commands.specs.Ready.{IsNoneOf, IsUnkeptBy, KeepsBy, keeps_mark}
use Rattle.disk_server.proofs.FaultLemmas.{is_handed_on}
use Rattle.disk_commands.proofs.ReadyLemmas.{is_kept, looked_same, marks_then, no_memory_told, not_opened, opens_alone, unkept_by, unlisted_back}
use Rattle.disk_commands.proofs.TellLemmas.{memory_stops, none_stops, told_stops, unkept_stops, unlisted_stops, unlooked_stops}
use Rattle.disk_commands.proofs.ready.ready.Goals as goal

pub returns-in_err-looked : goal.returns-in_err-looked
returns-in_err-looked g c =
    rw (is_handed_on _ _ c.from_residual.ensures.1) (record {
      ok = tt;
      named = tt;
      fault = inl c.in_err-looked.ensures.fault;
      stops = unlooked_stops g.E.Outgoing.fails _ g.F.Store.Store.held g.F.Store.Store.honest g.F.Store.Store.failed (g.F.DiskFiles.answers c.args.files.now) c.args.words.now.disk.now c.in_err-looked.field-0.0 c.in_err-looked.ensures.fault;
      unnamed = inl refl;
      opened = opens_alone (g.F.DiskFiles.answers c.args.files.now) c.args.words.now c.access_of.result _ _ c.access_of.ensures c.in_err-looked.ensures.opened;
      kept = c.in_err-looked.ensures.kept;
    })

pub returns-in_err-keeper : goal.returns-in_err-keeper
returns-in_err-keeper g c =
    let same = c.in_err-keeper.ensures.same in
    let looked = c.in_ok-looked.ensures in
    let unlisted = unlisted_back (g.F.DiskFiles.answers c.args.files.now) (g.F.DiskFiles.answers c.look_at.new.files) c.args.words.now.disk.now c.in_err-keeper.field-0.0 looked.no_more c.in_err-keeper.ensures.fault in
    rw (is_handed_on _ _ c.from_residual-in_err-keeper.ensures.1) (record {
      ok = tt;
      named = tt;
      fault = inr (inl unlisted);
      stops = unlisted_stops g.E.Outgoing.fails _ (g.F.DiskFiles.answers c.args.files.now) c.args.words.now.disk.now c.in_err-keeper.field-0.0 unlisted;
      unnamed = inl refl;
      opened = opens_alone (g.F.DiskFiles.answers c.args.files.now) c.args.words.now c.access_of.result _ _ c.access_of.ensures (ap g.F.DiskFiles.opened same ∙ looked.opened);
      kept = ap g.F.DiskFiles.kept same ∙ looked.kept;
    })

pub returns-in_err-disk : goal.returns-in_err-disk
returns-in_err-disk g c =
    let store = g.F.Store.Store in
    let words = c.args.words.now in
    let same = c.in_ok-keeper.ensures.same in
    let it = c.in_ok-looked in
    let none = subst (λ l. IsNoneOf store.held store.honest store.failed g.F.Lists.KeepsLost.kept g.F.Lists.KeepsLost.failed words.disk.now words.read_only it.looked.told it.looked.found it.looked.store l c.in_ok-keeper.keeper
    c.disk_of.new.keeper c.in_err-disk.field-0.0) c.deref.ensures.value c.in_err-disk.ensures.fault in
    rw (is_handed_on _ _ c.from_residual-in_err-disk.ensures.1) (record {
      ok = tt;
      named = tt;
      fault = not_opened store.held store.honest store.failed g.F.Syncs.Syncs.failed g.F.Lists.KeepsLost.kept g.F.Lists.ListPlace.says g.F.Lists.KeepsLost.failed (g.F.DiskFiles.answers c.args.files.now) words.disk.now words.read_only _
          it.looked.told it.looked.found it.looked.store _ it.looked.lost.items c.in_ok-keeper.keeper c.disk_of.new.keeper it.ensures.ok c.in_ok-keeper.ensures.none_kept c.in_ok-keeper.ensures.says (inl none);
      stops = none_stops g.E.Outgoing.fails _ store.held store.honest store.failed g.F.Lists.KeepsLost.kept g.F.Lists.KeepsLost.failed (g.F.DiskFiles.answers c.args.files.now) words.disk.now words.read_only it.looked.told it.looked.found it.looked.store it.looked.lost.items
          c.in_ok-keeper.keeper c.disk_of.new.keeper c.in_err-disk.field-0.0 none;
      unnamed = inl refl;
      opened = opens_alone (g.F.DiskFiles.answers c.args.files.now) words c.access_of.result _ _ c.access_of.ensures (ap g.F.DiskFiles.opened same ∙ it.ensures.opened);
      kept = ap g.F.DiskFiles.kept same ∙ it.ensures.kept;
    })

pub returns-in_err-syncs : goal.returns-in_err-syncs
returns-in_err-syncs g c =
    let store = g.F.Store.Store in
    let words = c.args.words.now in
    let same = c.in_ok-keeper.ensures.same in
    let it = c.in_ok-looked in
    let answers = g.F.DiskFiles.answers in
    let here = subst (λ x. IsUnkeptBy (keeps_mark words.read_only it.looked.told.marked) g.F.Syncs.Syncs.failed (answers x) words.disk.now c.in_err-syncs.field-0.0) same c.in_err-syncs.ensures.fault in
    let unkept = unkept_by (keeps_mark words.read_only it.looked.told.marked) g.F.Syncs.Syncs.failed (answers c.args.files.now) (answers c.look_at.new.files) words.disk.now c.in_err-syncs.field-0.0 it.ensures.no_more here in
    rw (is_handed_on _ _ c.from_residual-in_err-syncs.ensures.1) (record {
      ok = tt;
      named = tt;
      fault = not_opened store.held store.honest store.failed g.F.Syncs.Syncs.failed g.F.Lists.KeepsLost.kept g.F.Lists.ListPlace.says g.F.Lists.KeepsLost.failed (answers c.args.files.now) words.disk.now words.read_only _
          it.looked.told it.looked.found it.looked.store _ it.looked.lost.items c.in_ok-keeper.keeper c.disk_of.new.keeper it.ensures.ok c.in_ok-keeper.ensures.none_kept c.in_ok-keeper.ensures.says (inr unkept);
      stops = unkept_stops g.E.Outgoing.fails _ (keeps_mark words.read_only it.looked.told.marked) g.F.Syncs.Syncs.failed (answers c.args.files.now) words.disk.now c.in_err-syncs.field-0.0 unkept;
      unnamed = inl refl;
      opened = marks_then g.F.Store.Store.held g.F.Store.Store.honest (g.F.DiskFiles.answers c.args.files.now) c.args.words.now c.in_ok-looked.looked.told c.in_ok-looked.looked.found c.in_ok-looked.looked.store _ c.in_ok-looked.looked.lost.items
          c.in_ok-looked.ensures.ok c.access_of.result _ (g.F.DiskFiles.opened c.keeper_at.new.files) _ c.access_of.ensures (ap g.F.DiskFiles.opened same ∙ it.ensures.opened) c.in_err-syncs.ensures.opened;
      kept = c.in_err-syncs.ensures.kept ∙ (ap g.F.DiskFiles.kept same ∙ it.ensures.kept);
    })

pub returns-in_err-name_all : goal.returns-in_err-name_all
returns-in_err-name_all g c =
    let same = c.in_ok-keeper.ensures.same in
    let looked = c.in_ok-looked.ensures in
    rw (is_handed_on _ _ c.from_residual-in_err-name_all.ensures.1) (record {
      ok = tt;
      named = tt;
      fault = inr (inr (inr c.in_err-name_all.ensures.fault));
      stops = told_stops g.E.Outgoing.fails c.name_all.new.err (g.F.DiskFiles.answers c.args.files.now) c.args.words.now.disk.now c.in_err-name_all.field-0.0 c.in_err-name_all.ensures.stops;
      unnamed = inr c.in_err-name_all.ensures.fault;
      opened = marks_then g.F.Store.Store.held g.F.Store.Store.honest (g.F.DiskFiles.answers c.args.files.now) c.args.words.now c.in_ok-looked.looked.told c.in_ok-looked.looked.found c.in_ok-looked.looked.store _ c.in_ok-looked.looked.lost.items
          c.in_ok-looked.ensures.ok c.access_of.result _ (g.F.DiskFiles.opened c.keeper_at.new.files) _ c.access_of.ensures (ap g.F.DiskFiles.opened same ∙ looked.opened) c.in_ok-syncs.ensures.opened;
      kept = c.in_ok-syncs.ensures.kept ∙ (ap g.F.DiskFiles.kept same ∙ looked.kept);
    })

pub returns-in-Ok-clause-opened : goal.returns-in-Ok-clause-opened
returns-in-Ok-clause-opened g c =
    marks_then g.F.Store.Store.held g.F.Store.Store.honest (g.F.DiskFiles.answers c.args.files.now) c.args.words.now c.in_ok-looked.looked.told c.in_ok-looked.looked.found c.in_ok-looked.looked.store _ c.in_ok-looked.looked.lost.items
    c.in_ok-looked.ensures.ok c.access_of.result (g.F.DiskFiles.opened c.args.files.now) (g.F.DiskFiles.opened c.keeper_at.new.files) (g.F.DiskFiles.opened c.keep_mark_of.new.files) c.access_of.ensures
    (ap g.F.DiskFiles.opened c.in_ok-keeper.ensures.same ∙ c.in_ok-looked.ensures.opened) c.in_ok-syncs.ensures.opened

pub returns-in-Ok-clause-ok : goal.returns-in-Ok-clause-ok
returns-in-Ok-clause-ok g c = record {
  found = c.in_ok-looked.looked.found;
  store = c.in_ok-looked.looked.store;
  certificate = _;
  looked = looked_same g.F.Store.Store.held g.F.Store.Store.honest (g.F.DiskFiles.answers c.args.files.now) c.args.words.now.disk.now c.in_ok-looked.looked.told c.in_ok-looked.looked.found c.in_ok-looked.looked.store _ c.in_ok-looked.looked.lost.items
      c.in-Ok.disk.lost.items (ap (λ v. v.items) c.in-Ok.ensures.lost) c.in_ok-looked.ensures.ok;
  device = c.in_ok-disk.disk;
  device_is = ap (λ d. d.device) c.in-Ok.ensures.sectors ∙ c.reopening-device.ensures.device;
  not_reopened = ap (λ d. d.reopened) c.in-Ok.ensures.sectors ∙ c.reopening-device.ensures.reopened;
  room = ap (λ d. d.capacity) c.in-Ok.ensures.sectors ∙ c.reopening-device.ensures.capacity;
  share = ap (λ d. d.share) c.in-Ok.ensures.sectors ∙ c.reopening-device.ensures.share ∙ c.in_ok-disk.ensures.share;
  again = ap (λ d. d.sync_when) c.in-Ok.ensures.sectors ∙ c.reopening-device.ensures.sync_when ∙ c.sync_when.ensures;
  of = record {
    held_array = c.in_ok-disk.ensures.honest;
    bytes = c.in_ok-disk.ensures.bytes;
    pages = c.in_ok-disk.ensures.pages;
    cache = c.in_ok-disk.ensures.cache;
    share = c.in_ok-disk.ensures.share;
    syncs_when = c.in_ok-disk.ensures.syncs;
    keeps = λ writes marked. c.in_ok-syncs.ensures.marked (is_kept c.args.words.now.read_only c.in_ok-looked.looked.told.marked writes marked) ∙ ap (λ n. after_sync n false c.in_ok-looked.looked.found.mark) c.next_sequence-next.ensures;
  };
  mended_is = c.mended-mended.ensures;
  none_failed = c.in-Ok.ensures.failed;
  place = c.in_ok-keeper.keeper;
  none_kept = c.in_ok-keeper.ensures.none_kept;
  says_listed = c.in_ok-keeper.ensures.says;
  lasts = subst (λ v. KeepsBy c.args.words.now.read_only g.F.Lists.KeepsLost.kept v.items c.in_ok-keeper.keeper c.in-Ok.disk.keeper) (sym c.in-Ok.ensures.lost)
      (subst (λ k. KeepsBy c.args.words.now.read_only g.F.Lists.KeepsLost.kept c.in_ok-looked.looked.lost.items c.in_ok-keeper.keeper k) (sym c.in-Ok.ensures.keeper)
      (subst (λ l. KeepsBy c.args.words.now.read_only g.F.Lists.KeepsLost.kept l c.in_ok-keeper.keeper c.disk_of.new.keeper) c.deref.ensures.value c.in_ok-disk.ensures.listed));
}

pub returns : goal.returns
returns g c =
    let same = c.in_ok-keeper.ensures.same in
    let looked = c.in_ok-looked.ensures in
    record {
      ok = tt;
      named = tt;
      fault = inr (inr (inr (no_memory_told _ c.in-Err.ensures.fault)));
      stops = memory_stops g.E.Outgoing.fails _ (g.F.DiskFiles.answers c.args.files.now) c.args.words.now.disk.now _ c.in-Err.ensures.fault;
      unnamed = inr (no_memory_told _ c.in-Err.ensures.fault);
      opened = marks_then g.F.Store.Store.held g.F.Store.Store.honest (g.F.DiskFiles.answers c.args.files.now) c.args.words.now c.in_ok-looked.looked.told c.in_ok-looked.looked.found c.in_ok-looked.looked.store _ c.in_ok-looked.looked.lost.items
          c.in_ok-looked.ensures.ok c.access_of.result _ (g.F.DiskFiles.opened c.keeper_at.new.files) _ c.access_of.ensures (ap g.F.DiskFiles.opened same ∙ looked.opened) c.in_ok-syncs.ensures.opened;
      kept = c.in_ok-syncs.ensures.kept ∙ (ap g.F.DiskFiles.kept same ∙ looked.kept);
    }
