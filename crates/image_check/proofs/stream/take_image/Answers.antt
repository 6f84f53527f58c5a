use Rattle.std.proofs.Common.{Err, length, ap, refl, inl, inr, ◌∙◌}
use Rattle.std.proofs.lemmas.Result.{err_from_is_err_and}
use Rattle.image_check.specs.PageReader.{image_bytes}
use Rattle.image_check.proofs.StreamLemmas.{reads_all, shows_all, cut_untaken, past_untaken, failed_untaken, cut_stops, source_cut}
use Rattle.image_check.proofs.RefusalLemmas.{err_not_source, ok_not_source, length_not_source}
use Rattle.image_check.proofs.PageReaderLemmas.{reads_cut, taken, one_beyond}
use Rattle.image_check.proofs.stream.take_image.Goals as goal

pub stream_pages-requires : goal.stream_pages-requires
stream_pages-requires g c = record {
  pass = c.requires.pass;
  pass_geometry = c.requires.geometry;
  shows = c.requires.shows;
  body_whole = ap length c.deref_mut.ensures.value ∙ c.requires.body;
  spare_whole = ap length c.deref_mut-2.ensures.value ∙ c.requires.spare;
}

pub returns-in_err-stream_pages : goal.returns-in_err-stream_pages
returns-in_err-stream_pages g c =
    let p = err_from_is_err_and c.from_residual.result c.from_residual.ensures.1 in
    let cut = c.in_err-stream_pages.ensures.cut in
    rw p.1 (record {
      pass = tt;
      same_pass = tt;
      taken = tt;
      untaken = cut_untaken c.args.geometry.now _ _ _ _ cut p.2;
      stops = cut_stops _ _ p.2;
      source = λ is. c.stream_pages.ensures.failed (c.in_err-stream_pages.was ∙ ap Err (source_cut _ _ _ p.2 refl is));
      read = reads_cut _ _ _ _ _ (one_beyond (image_bytes c.args.geometry.now)) cut;
    })

pub returns-in-Ok-true : goal.returns-in-Ok-true
returns-in-Ok-true g c =
    let geo = c.args.geometry.now in
    let done = c.in_ok-stream_pages.ensures in
    record {
      pass = done.pass;
      same_pass = done.same_pass;
      taken = taken geo _ _ (shows_all geo c.stream_pages.new.pass) done.read (c.is_at_end.ensures.end cc);
      untaken = tt;
      stops = tt;
      source = λ is. absurd (ok_not_source _ _ refl is);
      read = reads_all geo _ _ _ _ (shows_all geo c.stream_pages.new.pass) refl done.read c.is_at_end.ensures.read;
    }

pub returns-in-Ok-false : goal.returns-in-Ok-false
returns-in-Ok-false g c =
    let geo = c.args.geometry.now in
    let read = c.in_ok-stream_pages.ensures.read in
    record {
      pass = tt;
      same_pass = tt;
      taken = tt;
      untaken = past_untaken geo _ _ (shows_all geo c.stream_pages.new.pass) _ read (c.is_at_end.ensures.more cc) refl;
      stops = inr refl;
      source = λ is. absurd (err_not_source _ _ refl length_not_source is);
      read = reads_all geo _ _ _ _ (shows_all geo c.stream_pages.new.pass) refl read c.is_at_end.ensures.read;
    }

pub returns : goal.returns
returns g c = record {
  pass = tt;
  same_pass = tt;
  taken = tt;
  untaken = failed_untaken c.args.geometry.now _ _ refl;
  stops = inl refl;
  source = λ is. c.in-Err.ensures.failed;
  read = reads_all c.args.geometry.now _ _ _ _ (shows_all c.args.geometry.now c.stream_pages.new.pass) refl c.in_ok-stream_pages.ensures.read c.is_at_end.ensures.read;
}
