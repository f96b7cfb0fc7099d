-- Document 01's worked log, computed.
use mathlib.Core.Path.{refl}
use Rattle.whole.specs.Floor.{floor, remainder}
use Rattle.whole.specs.Sum.{sum, over, all}
use Rattle.whole.specs.Lists.{tab, collect}
use Rattle.whole.specs.Word.{word}
use Rattle.lattice.specs.Weight.{best, spread, weight}
use Rattle.lattice.specs.Points.{corner, last_of, points}
use Rattle.index.specs.Keys.{same, key_at, hash, home}
use Rattle.index.specs.Search.{walk, search as sought}
use Rattle.index.specs.Indexed.{count, sparse, finding}
use Rattle.table.specs.Table.{rows, whole}
use Rattle.table.specs.Sound.{good_key, good_pair, indexed, sound}
use Rattle.table.specs.Pour.{set_pair, append, raise, pour, news_in}
use Rattle.table.specs.Reading.{shares}
use Rattle.table.specs.Calls.{fresh}
use Rattle.table.specs.Worked.{LogCases}

pub log_cases : LogCases
unfolding floor remainder sum over all tab collect word best spread weight corner last_of points same key_at hash home walk sought count sparse finding rows whole good_key good_pair indexed sound set_pair append raise pour news_in shares fresh
log_cases = record { stored_rows = refl; at_home = refl; is_sound = refl; mass_missing = refl }
