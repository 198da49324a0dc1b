-- The walk of a read, as a machine that makes one Look a turn.
use Rattle.std.specs.Prelude.{ℕ, Option}
use Rattle.beldi_value.specs.declared.place.Owner.{Owner}
use Rattle.beldi_row.specs.{Key.RowKey, Key.at_row, declared.act.Act.TheVariants.Look}
use Rattle.beldi_query.specs.{declared.query.Query.Query, declared.query.Query.TheVariants.Act, Query.QueryReply}
use Rattle.beldi_daal.specs.{declared.cell.ReadGoes.ReadGoes, declared.walk.Item.Item, declared.read_walk.ReadWalk.ReadWalk, declared.read_walk.ReadOutput.ReadOutput, declared.read_walk.ReadOutput.TheVariants.Going, declared.read_walk.ReadOutput.TheVariants.Got, declared.read_walk.ReadOutput.TheVariants.Held, Cell.read_goes, WriteWalk.first_key}

abbrev pub first_read : ℕ → Item → Option Owner → ReadWalk
first_read home item who = record { home = home; item = item; who = who; row = 0 }

abbrev pub read_key : ReadWalk → RowKey
read_key w = first_key w.home w.item

abbrev pub read_asks : ReadWalk → Query
read_asks w = Act (at_row (read_key w) w.row) Look

-- the walk stands where it stood, unless it goes on
abbrev pub read_at : ReadWalk → ReadGoes → ReadWalk
read_at w (ReadGoes.On n) = record w { row = n }
read_at w ReadGoes.Stays = w
read_at w (ReadGoes.Got v) = w
read_at w (ReadGoes.Held o) = w

abbrev pub read_next : ReadWalk → QueryReply → ReadWalk
read_next w t = read_at w (read_goes w.who t)

abbrev pub read_so : ReadGoes → ReadOutput
read_so (ReadGoes.On n) = Going
read_so ReadGoes.Stays = Going
read_so (ReadGoes.Got v) = Got v
read_so (ReadGoes.Held o) = Held o

-- its answer to what it was told
abbrev pub read_output : ReadWalk → QueryReply → ReadOutput
read_output w t = read_so (read_goes w.who t)
