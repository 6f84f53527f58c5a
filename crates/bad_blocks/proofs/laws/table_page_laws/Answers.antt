use Rattle.std.proofs.Common.{ℕ, List, subst, sym}
use Rattle.bad_blocks.specs.TablePage.{IsTablePage}
use Rattle.bad_blocks.proofs.PageLemmas.{length-table_bytes, table_bytes_page, page_bytes, table_rows_same}
use Rattle.bad_blocks.proofs.laws.table_page_laws.Goals as goal

pub returns-clause-bytes : goal.returns-clause-bytes
returns-clause-bytes c = λ entries rows u bytes counted fits. (
  (λ page. page_bytes entries rows u bytes fits page),
  (λ same. subst (λ (x : List ℕ). IsTablePage entries rows u x) (sym same) (table_bytes_page entries rows u counted)),
)

pub returns-clause-rows : goal.returns-clause-rows
returns-clause-rows c = table_rows_same

pub returns-clause-len : goal.returns-clause-len
returns-clause-len c = length-table_bytes
