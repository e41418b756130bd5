-- A table and what stands beside it, where both ends of an index's ring were looked at.
use Rattle.std.proofs.Common.{◌≡◌, ℕ, ◌<◌, List, length, set, get_or, sym, ap, ◌∙◌}
use Rattle.std.specs.List.{slice_get}
use Rattle.std.proofs.lemmas.List.{length-map, length-set, map-set}
use Rattle.side_file.specs.Ends.{PutEnd, RingId}
use Rattle.side_file.specs.SideFileValue.{SideFileValue}
use Rattle.side_file.specs.declared.entry.Entry.{Entry}
use Rattle.page_workers.specs.declared.copied.Copied.{Copied}
use Rattle.live_lemmas.specs.Builds.{LiveValue, SideIsLooked, SeesSideAt}
use Rattle.building.specs.BuildingValue.{BuildingValue}
use Rattle.live_lemmas.specs.Rings.{ArePutEnds}
use Rattle.building.specs.Working.{SideIsSeen}
use Rattle.table_scan.specs.SideFiles.{put_ends}
use Rattle.page_workers.proofs.Places.{at_index, below, here_set, kept, map_at, mapped}

-- the ends stay those of the table's rings
pub put_ends_stay :
    (page_rings entry_rings : List RingId) (pages : List (PutEnd Copied)) (sides : List SideFileValue) (index : ℕ) (old new : SideFileValue)
    → ArePutEnds page_rings entry_rings pages (put_ends sides) → old ≡ get_or sides index old → new.end.ring ≡ old.end.ring
    → ArePutEnds page_rings entry_rings pages (put_ends (set sides index new))
put_ends_stay page_rings entry_rings pages sides index old new are at ring = record {
  pages_are = are.pages_are;
  sides_are =
      mapped (λ (s : SideFileValue). s.end) (λ (e : PutEnd Entry). e.ring) (set sides index new)
      ∙ kept (λ (s : SideFileValue). s.end.ring) sides entry_rings index new old
      (sym (mapped (λ (s : SideFileValue). s.end) (λ (e : PutEnd Entry). e.ring) sides) ∙ are.sides_are) (ring ∙ ap (λ (s : SideFileValue). s.end.ring) at);
  sixteen = are.sixteen;
  eight = length-map (set sides index new) (λ (s : SideFileValue). s.end) ∙ length-set sides index new ∙ sym (length-map sides (λ (s : SideFileValue). s.end)) ∙ are.eight;
}

-- there are eight
pub eight_sides :
    (page_rings entry_rings : List RingId) (pages : List (PutEnd Copied)) (sides : List SideFileValue) → ArePutEnds page_rings entry_rings pages (put_ends sides)
    → length sides ≡ 8
eight_sides page_rings entry_rings pages sides are = sym (length-map sides (λ (s : SideFileValue). s.end)) ∙ are.eight

-- both ends were looked at
module _
    (index waiting : ℕ) (old seen : LiveValue) (building new_building : BuildingValue) (sides : List SideFileValue) (side new : SideFileValue) (same : seen ≡ old)
    (puts : seen.sides ≡ put_ends sides) (at : side ≡ get_or sides index side) (less : index < length sides)
    (sees : SideIsSeen index waiting side.end new.end building new_building) where
  -- what is left of the table
  abbrev looked : LiveValue
  looked = record seen { sides = put_ends (set sides index new) }

  pub side_is_looked : SideIsLooked index old building looked new_building
  side_is_looked = record {
    old_put = side.end;
    put_there = ap (λ (l : LiveValue). slice_get l.sides index) (sym same) ∙ ap (λ (ps : List (PutEnd Entry)). slice_get ps index) puts
        ∙ map_at (λ (s : SideFileValue). s.end) sides index side (at_index sides index side at less);
    old_end = sees.end;
    end_there = sees.there;
    put = new.end;
    end = sees.after;
    looked = sees.looked;
    puts = ap (λ (ps : List (PutEnd Entry)). record seen { sides = ps })
        (map-set (λ (s : SideFileValue). s.end) sides index new ∙ ap (λ (ps : List (PutEnd Entry)). set ps index new.end) (sym puts))
        ∙ ap (λ (l : LiveValue). record l { sides = set l.sides index new.end }) same;
    ends = sees.left;
  }

  pub sees_side : SeesSideAt index waiting looked new_building
  sees_side = record {
    put = new.end;
    put_there = map_at (λ (s : SideFileValue). s.end) (set sides index new) index new (here_set sides index new less);
    end = sees.after;
    end_there = ap (λ (b : BuildingValue). slice_get b.sides index) sees.left
        ∙ here_set building.sides index sees.after (below building.sides index sees.end sees.there);
    sees = sees.sees;
  }
