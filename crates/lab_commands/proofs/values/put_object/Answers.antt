use Rattle.std.proofs.Common.{sym, subst}
use Rattle.serde_json.specs.Written.{compact_text}
use Rattle.lab_commands.specs.Document.{Prints}
use Rattle.lab_commands.specs.Values.{line_data}
use Rattle.lab_commands.proofs.values.put_object.Goals as goal

pub returns-in-Pages : goal.returns-in-Pages
unfolding line_data
returns-in-Pages g c = subst (λ l. Prints (g.W.Output.failed c.put_pages.new.out) (g.W.Output.contents c.args.out.now) (g.W.Output.contents c.put_pages.new.out) (compact_text (line_data l)) c.put_pages.result) (sym c.in-Pages.is) c.put_pages.ensures

pub returns-in-NumberRange : goal.returns-in-NumberRange
unfolding line_data
returns-in-NumberRange g c = subst
    (λ l. Prints (g.W.Output.failed c.put_number_range.new.out) (g.W.Output.contents c.args.out.now) (g.W.Output.contents c.put_number_range.new.out)
    (compact_text (line_data l)) c.put_number_range.result) (sym c.in-NumberRange.is) c.put_number_range.ensures

pub returns-in-Repeated : goal.returns-in-Repeated
unfolding line_data
returns-in-Repeated g c = subst (λ l. Prints (g.W.Output.failed c.put_repeated.new.out) (g.W.Output.contents c.args.out.now) (g.W.Output.contents c.put_repeated.new.out) (compact_text (line_data l)) c.put_repeated.result) (sym c.in-Repeated.is) c.put_repeated.ensures

pub returns-in-NotFormatted : goal.returns-in-NotFormatted
unfolding line_data
returns-in-NotFormatted g c = subst
    (λ l. Prints (g.W.Output.failed c.put_not_formatted.new.out) (g.W.Output.contents c.args.out.now)
    (g.W.Output.contents c.put_not_formatted.new.out) (compact_text (line_data l)) c.put_not_formatted.result) (sym c.in-NotFormatted.is)
    c.put_not_formatted.ensures

pub returns-in-TableDamaged : goal.returns-in-TableDamaged
unfolding line_data
returns-in-TableDamaged g c = subst
    (λ l. Prints (g.W.Output.failed c.put_table_damaged.new.out) (g.W.Output.contents c.args.out.now)
    (g.W.Output.contents c.put_table_damaged.new.out) (compact_text (line_data l)) c.put_table_damaged.result) (sym c.in-TableDamaged.is)
    c.put_table_damaged.ensures

pub returns-in-LastSequence : goal.returns-in-LastSequence
unfolding line_data
returns-in-LastSequence g c = subst
    (λ l. Prints (g.W.Output.failed c.put_last_sequence.new.out) (g.W.Output.contents c.args.out.now)
    (g.W.Output.contents c.put_last_sequence.new.out) (compact_text (line_data l)) c.put_last_sequence.result) (sym c.in-LastSequence.is)
    c.put_last_sequence.ensures

pub returns-in-Tied : goal.returns-in-Tied
unfolding line_data
returns-in-Tied g c = subst (λ l. Prints (g.W.Output.failed c.put_tied.new.out) (g.W.Output.contents c.args.out.now) (g.W.Output.contents c.put_tied.new.out) (compact_text (line_data l)) c.put_tied.result) (sym c.in-Tied.is) c.put_tied.ensures

pub returns-in-Missing : goal.returns-in-Missing
unfolding line_data
returns-in-Missing g c = subst (λ l. Prints (g.W.Output.failed c.put_missing.new.out) (g.W.Output.contents c.args.out.now) (g.W.Output.contents c.put_missing.new.out) (compact_text (line_data l)) c.put_missing.result) (sym c.in-Missing.is) c.put_missing.ensures

pub returns-in-Block : goal.returns-in-Block
unfolding line_data
returns-in-Block g c = subst (λ l. Prints (g.W.Output.failed c.put_block_data.new.out) (g.W.Output.contents c.args.out.now) (g.W.Output.contents c.put_block_data.new.out) (compact_text (line_data l)) c.put_block_data.result) (sym c.in-Block.is) c.put_block_data.ensures

pub returns-in-PlainBlock : goal.returns-in-PlainBlock
unfolding line_data
returns-in-PlainBlock g c = subst
    (λ l. Prints (g.W.Output.failed c.put_plain_block.new.out) (g.W.Output.contents c.args.out.now) (g.W.Output.contents c.put_plain_block.new.out)
    (compact_text (line_data l)) c.put_plain_block.result) (sym c.in-PlainBlock.is) c.put_plain_block.ensures

pub returns-in-Lost : goal.returns-in-Lost
unfolding line_data
returns-in-Lost g c = subst (λ l. Prints (g.W.Output.failed c.put_lost.new.out) (g.W.Output.contents c.args.out.now) (g.W.Output.contents c.put_lost.new.out) (compact_text (line_data l)) c.put_lost.result) (sym c.in-Lost.is) c.put_lost.ensures

pub returns-in-Fit : goal.returns-in-Fit
unfolding line_data
returns-in-Fit g c = subst (λ l. Prints (g.W.Output.failed c.put_fit.new.out) (g.W.Output.contents c.args.out.now) (g.W.Output.contents c.put_fit.new.out) (compact_text (line_data l)) c.put_fit.result) (sym c.in-Fit.is) c.put_fit.ensures

pub returns-in-Mended : goal.returns-in-Mended
unfolding line_data
returns-in-Mended g c = subst (λ l. Prints (g.W.Output.failed c.put_turn_data.new.out) (g.W.Output.contents c.args.out.now) (g.W.Output.contents c.put_turn_data.new.out) (compact_text (line_data l)) c.put_turn_data.result) (sym c.in-Mended.is) c.put_turn_data.ensures

pub returns-in-MendedCount : goal.returns-in-MendedCount
unfolding line_data
returns-in-MendedCount g c = subst
    (λ l. Prints (g.W.Output.failed c.put_mended_count.new.out) (g.W.Output.contents c.args.out.now) (g.W.Output.contents c.put_mended_count.new.out)
    (compact_text (line_data l)) c.put_mended_count.result) (sym c.in-MendedCount.is) c.put_mended_count.ensures

pub returns-in-LostRow : goal.returns-in-LostRow
unfolding line_data
returns-in-LostRow g c = subst (λ l. Prints (g.W.Output.failed c.put_lost_row.new.out) (g.W.Output.contents c.args.out.now) (g.W.Output.contents c.put_lost_row.new.out) (compact_text (line_data l)) c.put_lost_row.result) (sym c.in-LostRow.is) c.put_lost_row.ensures

pub returns-in-Corrected : goal.returns-in-Corrected
unfolding line_data
returns-in-Corrected g c = subst (λ l. Prints (g.W.Output.failed c.put_corrected.new.out) (g.W.Output.contents c.args.out.now) (g.W.Output.contents c.put_corrected.new.out) (compact_text (line_data l)) c.put_corrected.result) (sym c.in-Corrected.is) c.put_corrected.ensures

pub returns-in-Arranged : goal.returns-in-Arranged
unfolding line_data
returns-in-Arranged g c = subst (λ l. Prints (g.W.Output.failed c.put_arranged.new.out) (g.W.Output.contents c.args.out.now) (g.W.Output.contents c.put_arranged.new.out) (compact_text (line_data l)) c.put_arranged.result) (sym c.in-Arranged.is) c.put_arranged.ensures

pub returns-in-Differ : goal.returns-in-Differ
unfolding line_data
returns-in-Differ g c = subst (λ l. Prints (g.W.Output.failed c.put_differ.new.out) (g.W.Output.contents c.args.out.now) (g.W.Output.contents c.put_differ.new.out) (compact_text (line_data l)) c.put_differ.result) (sym c.in-Differ.is) c.put_differ.ensures

pub returns-in-Unsound : goal.returns-in-Unsound
unfolding line_data
returns-in-Unsound g c = subst (λ l. Prints (g.W.Output.failed c.put_unsound.new.out) (g.W.Output.contents c.args.out.now) (g.W.Output.contents c.put_unsound.new.out) (compact_text (line_data l)) c.put_unsound.result) (sym c.in-Unsound.is) c.put_unsound.ensures

pub returns-in-Merged : goal.returns-in-Merged
unfolding line_data
returns-in-Merged g c = subst (λ l. Prints (g.W.Output.failed c.put_merged.new.out) (g.W.Output.contents c.args.out.now) (g.W.Output.contents c.put_merged.new.out) (compact_text (line_data l)) c.put_merged.result) (sym c.in-Merged.is) c.put_merged.ensures

pub returns-in-Age : goal.returns-in-Age
unfolding line_data
returns-in-Age g c = subst (λ l. Prints (g.W.Output.failed c.put_age.new.out) (g.W.Output.contents c.args.out.now) (g.W.Output.contents c.put_age.new.out) (compact_text (line_data l)) c.put_age.result) (sym c.in-Age.is) c.put_age.ensures

pub returns-in-AgeOfRows : goal.returns-in-AgeOfRows
unfolding line_data
returns-in-AgeOfRows g c = subst
    (λ l. Prints (g.W.Output.failed c.put_age_of_rows.new.out) (g.W.Output.contents c.args.out.now) (g.W.Output.contents c.put_age_of_rows.new.out)
    (compact_text (line_data l)) c.put_age_of_rows.result) (sym c.in-AgeOfRows.is) c.put_age_of_rows.ensures

pub returns-in-OfRows : goal.returns-in-OfRows
unfolding line_data
returns-in-OfRows g c = subst (λ l. Prints (g.W.Output.failed c.put_rows.new.out) (g.W.Output.contents c.args.out.now) (g.W.Output.contents c.put_rows.new.out) (compact_text (line_data l)) c.put_rows.result) (sym c.in-OfRows.is) c.put_rows.ensures

pub returns-in-Factory : goal.returns-in-Factory
unfolding line_data
returns-in-Factory g c = subst (λ l. Prints (g.W.Output.failed c.put_factory.new.out) (g.W.Output.contents c.args.out.now) (g.W.Output.contents c.put_factory.new.out) (compact_text (line_data l)) c.put_factory.result) (sym c.in-Factory.is) c.put_factory.ensures

pub returns-in-Rewritten : goal.returns-in-Rewritten
unfolding line_data
returns-in-Rewritten g c = subst (λ l. Prints (g.W.Output.failed c.put_rewritten.new.out) (g.W.Output.contents c.args.out.now) (g.W.Output.contents c.put_rewritten.new.out) (compact_text (line_data l)) c.put_rewritten.result) (sym c.in-Rewritten.is) c.put_rewritten.ensures

pub returns-in-Holes : goal.returns-in-Holes
unfolding line_data
returns-in-Holes g c = subst (λ l. Prints (g.W.Output.failed c.put_holes.new.out) (g.W.Output.contents c.args.out.now) (g.W.Output.contents c.put_holes.new.out) (compact_text (line_data l)) c.put_holes.result) (sym c.in-Holes.is) c.put_holes.ensures

pub returns-in-Outside : goal.returns-in-Outside
unfolding line_data
returns-in-Outside g c = subst (λ l. Prints (g.W.Output.failed c.put_outside.new.out) (g.W.Output.contents c.args.out.now) (g.W.Output.contents c.put_outside.new.out) (compact_text (line_data l)) c.put_outside.result) (sym c.in-Outside.is) c.put_outside.ensures

pub returns-in-AgeUntil : goal.returns-in-AgeUntil
unfolding line_data
returns-in-AgeUntil g c = subst (λ l. Prints (g.W.Output.failed c.put_until.new.out) (g.W.Output.contents c.args.out.now) (g.W.Output.contents c.put_until.new.out) (compact_text (line_data l)) c.put_until.result) (sym c.in-AgeUntil.is) c.put_until.ensures

pub returns-in-Page : goal.returns-in-Page
unfolding line_data
returns-in-Page g c = subst (λ l. Prints (g.W.Output.failed c.put_page_data.new.out) (g.W.Output.contents c.args.out.now) (g.W.Output.contents c.put_page_data.new.out) (compact_text (line_data l)) c.put_page_data.result) (sym c.in-Page.is) c.put_page_data.ensures

pub returns-in-History : goal.returns-in-History
unfolding line_data
returns-in-History g c = subst (λ l. Prints (g.W.Output.failed c.put_history.new.out) (g.W.Output.contents c.args.out.now) (g.W.Output.contents c.put_history.new.out) (compact_text (line_data l)) c.put_history.result) (sym c.in-History.is) c.put_history.ensures

pub returns-in-Says : goal.returns-in-Says
unfolding line_data
returns-in-Says g c = subst (λ l. Prints (g.W.Output.failed c.put_says.new.out) (g.W.Output.contents c.args.out.now) (g.W.Output.contents c.put_says.new.out) (compact_text (line_data l)) c.put_says.result) (sym c.in-Says.is) c.put_says.ensures

pub returns-in-Legible : goal.returns-in-Legible
unfolding line_data
returns-in-Legible g c = subst (λ l. Prints (g.W.Output.failed c.put_legible.new.out) (g.W.Output.contents c.args.out.now) (g.W.Output.contents c.put_legible.new.out) (compact_text (line_data l)) c.put_legible.result) (sym c.in-Legible.is) c.put_legible.ensures

pub returns-in-Damaged : goal.returns-in-Damaged
unfolding line_data
returns-in-Damaged g c = subst (λ l. Prints (g.W.Output.failed c.put_damaged.new.out) (g.W.Output.contents c.args.out.now) (g.W.Output.contents c.put_damaged.new.out) (compact_text (line_data l)) c.put_damaged.result) (sym c.in-Damaged.is) c.put_damaged.ensures

pub returns-in-Tried : goal.returns-in-Tried
unfolding line_data
returns-in-Tried g c = subst (λ l. Prints (g.W.Output.failed c.put_tried.new.out) (g.W.Output.contents c.args.out.now) (g.W.Output.contents c.put_tried.new.out) (compact_text (line_data l)) c.put_tried.result) (sym c.in-Tried.is) c.put_tried.ensures

pub returns-in-Tries : goal.returns-in-Tries
unfolding line_data
returns-in-Tries g c = subst (λ l. Prints (g.W.Output.failed c.put_tries.new.out) (g.W.Output.contents c.args.out.now) (g.W.Output.contents c.put_tries.new.out) (compact_text (line_data l)) c.put_tries.result) (sym c.in-Tries.is) c.put_tries.ensures

pub returns-in-Origin : goal.returns-in-Origin
unfolding line_data
returns-in-Origin g c = subst (λ l. Prints (g.W.Output.failed c.put_origin_data.new.out) (g.W.Output.contents c.args.out.now) (g.W.Output.contents c.put_origin_data.new.out) (compact_text (line_data l)) c.put_origin_data.result) (sym c.in-Origin.is) c.put_origin_data.ensures

pub returns-in-ArrangedFit : goal.returns-in-ArrangedFit
unfolding line_data
returns-in-ArrangedFit g c =
    subst (λ l. Prints (g.W.Output.failed c.put_arranged_object.new.out) (g.W.Output.contents c.args.out.now) (g.W.Output.contents c.put_arranged_object.new.out) (compact_text (line_data l)) c.put_arranged_object.result) (sym c.in-ArrangedFit.is) c.put_arranged_object.ensures
