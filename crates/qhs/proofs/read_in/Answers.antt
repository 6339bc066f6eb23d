-- `qhs::read_in` meets its contract: what the check does not find alone.
use Rattle.qhs.proofs.ReadLaws.{too_long, too_short, unmarked, other_version, many_cells, left_to_records}
use Rattle.qhs.proofs.read_in.Goals as goal

pub returns-then-bytes-gt-FILE_BYTES : goal.returns-then-bytes-gt-FILE_BYTES
returns-then-bytes-gt-FILE_BYTES c = search (too_long)

pub returns-then-bytes-l : goal.returns-then-bytes-l
returns-then-bytes-l c = search (too_short)

pub returns-then-not-marked : goal.returns-then-not-marked
returns-then-not-marked c = search (unmarked)

pub returns-then-number_at-l : goal.returns-then-number_at-l
returns-then-number_at-l c = search (other_version)

pub returns-then-header-gt-FILE_CELLS : goal.returns-then-header-gt-FILE_CELLS
returns-then-header-gt-FILE_CELLS c = search (many_cells)

pub returns : goal.returns
returns c = search (left_to_records)
