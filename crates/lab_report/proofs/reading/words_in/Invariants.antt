use Rattle.std.proofs.Common.{◌≡◌, map, take, Some, string_bytes}
use Rattle.serde_json.specs.Find.{as_str}
use Rattle.serde_json.specs.View.{items_view}
use Rattle.lab_report.specs.Reading.{all_in}
use Rattle.lab_report.proofs.reading.words_in.Given as goal

abbrev pub invariant-loop-value : goal.invariant-loop-value
invariant-loop-value l = all_in as_str (items_view (take l.value-index l.values)) ≡ Some (map string_bytes l.words.items)
