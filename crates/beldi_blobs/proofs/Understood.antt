-- Each text is compiled by the meaning of SQL, inside the logic.
use Rattle.std.proofs.Common.{◌≡◌, refl, false, Ok}
use Rattle.sqlite.specs.Command.TheVariants.{CreateTable}
use Rattle.sqlite.specs.Compile.{table_defined_by}
use Rattle.sqlite_tied.specs.Compute.{everything}
use Rattle.sqlite.specs.Listing.{understood, reads_listing}
use Rattle.sqlite.proofs.Callers.{IsPlain, command_of, statement_of}
use Rattle.beldi_blobs.specs.Texts.{beldi, one_table, no_schema, create_text, get_text, put_text, next_text, remove_text}
use Rattle.beldi_blobs.specs.Queries.{get_command, put_command, next_command, remove_command}

pub create_is : (command_of (understood no_schema create_text) ≡ CreateTable) × (statement_of create_text (understood no_schema create_text) ≡ create_text) × (table_defined_by create_text ≡ Ok beldi)
unfolding understood everything
create_is = (refl, refl, refl)

pub get_is : (command_of (understood one_table get_text) ≡ get_command) × (reads_listing one_table get_text ≡ false)
unfolding understood everything
get_is = (refl, refl)

pub put_is : command_of (understood one_table put_text) ≡ put_command
unfolding understood everything
put_is = refl

pub next_is : (command_of (understood one_table next_text) ≡ next_command) × (reads_listing one_table next_text ≡ false)
unfolding understood everything
next_is = (refl, refl)

pub create_plain : IsPlain (understood no_schema create_text)
unfolding understood everything
create_plain = (refl, refl)

pub get_plain : IsPlain (understood one_table get_text)
unfolding understood everything
get_plain = (refl, refl)

pub put_plain : IsPlain (understood one_table put_text)
unfolding understood everything
put_plain = (refl, refl)

pub next_plain : IsPlain (understood one_table next_text)
unfolding understood everything
next_plain = (refl, refl)

pub remove_is : command_of (understood one_table remove_text) ≡ remove_command
unfolding understood everything
remove_is = refl

pub remove_plain : IsPlain (understood one_table remove_text)
unfolding understood everything
remove_plain = (refl, refl)
