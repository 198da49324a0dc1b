use Rattle.serde_json.specs.Data.{items_depth}
use Rattle.beldi_value.proofs.Names.{drop, json_items_view, max, members_depth, members_view, ◌≡◌}
use Rattle.beldi_value.proofs.convert.+depth.Given as goal

-- the deepest so far and those that are left are the deepest of all
abbrev pub invariant-depth_of_members-loop-json : goal.invariant-depth_of_members-loop-json
invariant-depth_of_members-loop-json l = max l.deepest (members_depth (members_view l.json-iterator)) ≡ members_depth (members_view l.members.entries)

abbrev pub invariant-depth_of_items-loop-json : goal.invariant-depth_of_items-loop-json
invariant-depth_of_items-loop-json l = max l.deepest (items_depth (json_items_view (drop l.json-index l.json-items))) ≡ items_depth (json_items_view l.json-items)
