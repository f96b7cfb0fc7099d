-- The definitions agree with "Output, the whole of it": computed.
use mathlib.Core.Path.{refl}
use Rattle.whole.specs.Floor.{floor, remainder}
use Rattle.whole.specs.Rounding.{rounded}
use Rattle.whole.specs.Sum.{sum, over, all}
use Rattle.whole.specs.Lists.{tab, collect}
use Rattle.whole.specs.Word.{word}
use Rattle.lattice.specs.Refusals.{first}
use Rattle.lattice.specs.Position.{all_near, sums_to_zero}
use Rattle.lattice.specs.Weight.{best, spread, weight}
use Rattle.lattice.specs.Points.{corner, last_of, points}
use Rattle.index.specs.Keys.{same, key_at, hash, home}
use Rattle.index.specs.Search.{walk as sequence, search as sought}
use Rattle.table.specs.Table.{whole}
use Rattle.table.specs.Pour.{set_pair, append, raise, pour, news_in}
use Rattle.table.specs.Reading.{shares}
use Rattle.table.specs.Calls.{ranged, fits, fresh}
use Rattle.book.specs.Book.{among}
use Rattle.book.specs.Numbers.{lowest_from}
use Rattle.book.specs.Calls.{fresh_refusal, fresh_booked, refusal}
use Rattle.listing.specs.Order.{precedes, insert, ordered}
use Rattle.listing.specs.Listing.{order}
use Rattle.blur.specs.Blur.{step, plus_step, minus_step, pass, passes, mass_after, value_after}
use Rattle.filter.specs.Answer.{weighted, meets, code_by, value_by}
use Rattle.reader.specs.Bytes.{little, signed, numbers_in}
use Rattle.reader.specs.Kinds.{kind_in, total}
use Rattle.reader.specs.Items.{form_refusal, item_at}
use Rattle.reader.specs.Content.{said_at}
use Rattle.reader.specs.Walk.{walk, walk_from}
use Rattle.load.specs.Loading.{load_walk, load}
use Rattle.text.specs.Text.{digits_in, decimal, spaced, line}
use Rattle.report.specs.Report.{point_lines, per_query, settings_refusal, report}
use Rattle.report.specs.Worked.{ReportCases}

pub report_cases : ReportCases
unfolding floor remainder rounded sum over all tab collect word first all_near sums_to_zero best spread weight corner last_of points same key_at hash home sequence sought whole set_pair append raise pour news_in shares ranged fits fresh among lowest_from fresh_refusal fresh_booked refusal precedes insert ordered order step plus_step minus_step pass passes mass_after value_after weighted meets code_by value_by little signed numbers_in kind_in total form_refusal item_at said_at walk walk_from load_walk load digits_in decimal spaced line point_lines per_query settings_refusal report
report_cases = record { five_lines_are = refl; queries_first = refl; numbered_too = refl; cut_short = refl; held_already = refl; too_wide = refl }
