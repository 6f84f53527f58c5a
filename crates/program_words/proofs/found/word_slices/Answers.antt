use Rattle.std.proofs.Common.{rules, string_bytes, Bor, List, ℕ}
use Rattle.std.proofs.lemmas.Iterator.{YieldsList-from_map_by, YieldsList-from_slice}
use Rattle.program_words.proofs.FoundLemmas.{texts_from_collect}
use Rattle.program_words.proofs.found.word_slices.Goals as goal

pub returns : goal.returns
returns c =
    texts_from_collect c.collect.result c.collect.ensures.ran
    (YieldsList-from_map_by _ (λ (r : Bor (List ℕ)). r.now) string_bytes (YieldsList-from_slice c.args.kept.now (search rules)) c.map.ensures.closure (λ x r q k. search rules))
