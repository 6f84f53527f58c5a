use Rattle.std.proofs.Common.{◌≡◌, ◌≤◌, true, length, sym, subst, ◌∙◌, arith, Err, ap, refl, inl, inr}
use Rattle.std.proofs.lemmas.Result.{err_from_is_err_and}
use Rattle.image_check.specs.Agrees.{IsAsked}
use Rattle.image_check.specs.Surveyed.{SurveysKeys}
use Rattle.image_check.proofs.JudgeLemmas.{rising_length, stale_after}
use Rattle.image_check.proofs.ReadLemmas.{reads_none, reads_then, reads_same, risen_over}
use Rattle.image_check.proofs.RefusalLemmas.{same_refusal, memory_not_source}
use Rattle.mount.specs.Mounted.{IsMounted}
use Rattle.mount.proofs.CountLemmas.{one_read, two_reads}
use Rattle.mount.proofs.MountLemmas.{parts_fit, mounted}
use Rattle.mount.proofs.RefuseLemmas.{no_claim, stale_refused, given_not, stop_of_mounting, stale_not_source}
use Rattle.mount.proofs.mount_image.mount_counted.Goals as goal

pub show_pages-requires : goal.show_pages-requires
show_pages-requires g c =
    let room = c.in_ok-room.ensures in
    record {
      same_geometry = c.requires.same_geometry;
      body_whole = ap length c.deref_mut.ensures.value ∙ room.body;
      spare_whole = ap length c.deref_mut-2.ensures.value ∙ room.spare;
    }

pub overflow_cast-count : goal.overflow_cast-count
overflow_cast-count g c =
    let few = rising_length c.args.geometry.now.sectors c.find_stale.new.stale.items c.in_ok-find_stale.ensures.rising in
    let most = c.args.geometry.now.limits.sector_count.most in
    omega (arith, few, most, c.find_stale.new.stale.ok.0, c.len-count.ensures)

pub new-certificate-requires : goal.new-certificate-requires
new-certificate-requires g c =
    let geo = c.args.geometry.now in
    let shown = c.in_ok-shown.shown in
    parts_fit geo c.args.capacity shown c.put_directory.new.words.items c.put_sectors.new.words.items c.requires.least c.requires.most c.in_ok-shown.ensures.sized c.put_sectors.ensures c.put_directory.ensures

pub returns-in_err-room : goal.returns-in_err-room
returns-in_err-room g c =
    let p = err_from_is_err_and c.from_residual.result c.from_residual.ensures.1 in
    rw (p.1, p.2) (record {
      ok = tt;
      stale = tt;
      whole = tt;
      err = λ honest. inl (inr refl);
      same = λ other honest. refl;
      few = tt;
      rising = tt;
      asked = tt;
      only = tt;
      told = tt;
      only_reads = reads_none _ _;
      reads = reads_same _ _;
      rose = λ is. absurd (memory_not_source (same_refusal _ _ _ refl is));
    })

pub returns-in_err-shown : goal.returns-in_err-shown
returns-in_err-shown g c =
    let p = err_from_is_err_and c.from_residual-in_err-shown.result c.from_residual-in_err-shown.ensures.1 in
    let made = c.in_err-shown.ensures in
    rw (p.1, p.2) (record {
      ok = tt;
      stale = tt;
      whole = tt;
      err = λ honest. made.err honest c.args.capacity;
      same = λ other. made.same (λ is. other (ap Err (same_refusal _ _ _ refl is)));
      few = tt;
      rising = tt;
      asked = tt;
      only = made.only;
      told = tt;
      only_reads = made.only_reads;
      reads = one_read _ _ _ _ made.reads;
      rose = λ is. made.rose (ap Err (same_refusal _ _ _ refl is));
    })

pub returns-in_err-find_stale : goal.returns-in_err-find_stale
returns-in_err-find_stale g c =
    let p = err_from_is_err_and c.from_residual-in_err-find_stale.result c.from_residual-in_err-find_stale.ensures.1 in
    let shown = c.in_ok-shown.ensures in
    let made = c.in_err-find_stale.ensures in
    rw (p.1, p.2) (record {
      ok = tt;
      stale = tt;
      whole = tt;
      err = λ honest. inl made.stops;
      same = λ other honest. made.same (λ is. other (ap Err (same_refusal _ _ _ refl is))) (shown.only_reads.honest_is ∙ honest) ∙ shown.same (given_not _ _ _ refl) honest;
      few = tt;
      rising = tt;
      asked = tt;
      only = stop_of_mounting _ made.stops;
      told = tt;
      only_reads = reads_then _ _ _ _ shown.only_reads made.only_reads;
      reads = two_reads _ _ _ _ _ shown.reads made.reads;
      rose = λ is. risen_over _ _ _ shown.only_reads.failed_is (made.rose (ap Err (same_refusal _ _ _ refl is)));
    })

pub returns-then-count-capacity : goal.returns-then-count-capacity
returns-then-count-capacity g c =
    let geo = c.args.geometry.now in
    let first = g.S.PageSource.view.flash c.args.source.now in
    let shown = c.in_ok-shown.ensures in
    let made = c.in_ok-find_stale.ensures in
    record {
      ok = tt;
      stale = tt;
      whole = tt;
      err = λ honest.
          let told = shown.shown honest in
          let keys : SurveysKeys geo first.image c.deref.result.now = subst (λ xs. SurveysKeys geo first.image xs) (sym c.deref.ensures.value) told.keys in
          let same = shown.same (given_not _ _ _ refl) honest in
          let stale = stale_after geo first (g.S.PageSource.view.flash c.show_pages.new.source) c.deref.result.now c.find_stale.new.stale.items same keys (made.stale (shown.only_reads.honest_is ∙ honest)) in
          stale_refused geo c.args.capacity first.image c.find_stale.new.stale.items c.len-count.result stale (omega (arith, c.find_stale.new.stale.ok.0, c.len-count.ensures))
          (omega (arith, c.if-count-capacity.true)) (told.orderly c.args.capacity (no_claim geo));
      same = λ other honest. made.same (given_not _ _ _ refl) (shown.only_reads.honest_is ∙ honest) ∙ shown.same (given_not _ _ _ refl) honest;
      few = tt;
      rising = tt;
      asked = tt;
      only = tt;
      told = tt;
      only_reads = reads_then _ _ _ _ shown.only_reads made.only_reads;
      reads = two_reads _ _ _ _ _ shown.reads made.reads;
      rose = λ is. absurd (stale_not_source _ _ (same_refusal _ _ _ refl is));
    }

pub returns : goal.returns
returns g c =
    let geo = c.args.geometry.now in
    let first = g.S.PageSource.view.flash c.args.source.now in
    let shown = c.in_ok-shown.ensures in
    let made = c.in_ok-find_stale.ensures in
    let few : length c.find_stale.new.stale.items ≤ c.args.capacity = omega (arith, c.find_stale.new.stale.ok.0, c.len-count.ensures, c.if-count-capacity.false) in
    let claim = sym c.new-certificate.ensures.is in
    let stale = λ (honest : g.S.PageSource.view.honest c.args.source.now ≡ true).
    (let told = shown.shown honest in
    let keys : SurveysKeys geo first.image c.deref.result.now = subst (λ xs. SurveysKeys geo first.image xs) (sym c.deref.ensures.value) told.keys in
    let same = shown.same (given_not _ _ _ refl) honest in
    stale_after geo first (g.S.PageSource.view.flash c.show_pages.new.source) c.deref.result.now c.find_stale.new.stale.items same keys (made.stale (shown.only_reads.honest_is ∙ honest))) in
    record {
      ok = λ honest. subst (λ claim. IsMounted geo c.args.capacity first.image claim) claim
          (mounted geo c.args.capacity first.image c.in_ok-shown.shown c.put_directory.new.words.items c.put_sectors.new.words.items c.find_stale.new.stale.items
          shown.sized (shown.shown honest) c.put_sectors.ensures c.put_directory.ensures (stale honest) few);
      stale = stale;
      whole = shown.whole;
      err = tt;
      same = λ other honest. made.same (given_not _ _ _ refl) (shown.only_reads.honest_is ∙ honest) ∙ shown.same (given_not _ _ _ refl) honest;
      few = few;
      rising = made.rising;
      asked = subst (λ claim. IsAsked geo c.args.capacity claim) claim (record { geometry = refl; capacity_same = refl });
      only = tt;
      told = λ honest. made.told (shown.only_reads.honest_is ∙ honest) ∙ shown.told honest;
      only_reads = reads_then _ _ _ _ shown.only_reads made.only_reads;
      reads = two_reads _ _ _ _ _ shown.reads made.reads;
      rose = λ is. absurd (given_not _ _ _ refl is);
    }

pub put_sectors-requires : goal.put_sectors-requires
put_sectors-requires g c = record { empty = c.in_ok-room.ensures.no_sector; room = c.in_ok-room.ensures.sectors; shown = c.in_ok-shown.ensures.sized }

pub put_directory-requires : goal.put_directory-requires
put_directory-requires g c = record { empty = c.in_ok-room.ensures.no_page; room = c.in_ok-room.ensures.directory; shown = c.in_ok-shown.ensures.sized }
