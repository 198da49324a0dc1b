-- The value that a listing shows of an item: of one that a committed transaction owns, its shadow's.
use Rattle.std.specs.Prelude.{Option}
use Rattle.beldi_value.specs.declared.{place.Owner.Owner, value.Value.Value}
use Rattle.beldi_plain.specs.Item.{Item}
use Rattle.beldi_row.specs.Table.{Rows}
use Rattle.beldi_step.specs.Tables.{shown_under}
use Rattle.beldi_histories.specs.Contents.{content_of}

abbrev pub listed_under : Rows → Item → Option Owner → Value → Value
listed_under m x o v = shown_under m x.func x.table x.key o v

abbrev pub listed : Rows → Item → Value
listed m x = listed_under m x (content_of m x).owner (content_of m x).value
