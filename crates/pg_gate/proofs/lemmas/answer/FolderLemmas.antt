-- A source that looks for paths in folders: what it is asked for after a slash is what is looked for.
use Rattle.std.proofs.Common.{◌≡◌, ◌||◌, ◌&&◌, true, false, Bor, length, inl, inr, ℕ, Bool, List, [], ◌∷◌, Option, Some, None, ap, refl}
use Rattle.std.proofs.lemmas.List.Elements.{All-weaker}
use Rattle.pg_link.specs.declared.error.LinkError.{LinkError}
use Rattle.pg_link.specs.declared.error.LinkError.TheVariants as error
use Rattle.pg_link.specs.declared.error.Place.{Place}
use Rattle.pg_link.specs.declared.sources.Sources.{Ghosts}
use Rattle.pg_link.specs.names.Files.{Import}
use Rattle.pg_link.specs.names.Names.{Text}
use Rattle.pg_link.specs.uses.UseFaults.{LinkRefuses}
use Rattle.pg_link.specs.walk.FolderPath.{path_below}
use Rattle.pg_link.specs.walk.Reads.{ReadsApart}
use Rattle.pg_link.specs.walk.Walk as walk
use Rattle.pg_link.specs.walk.Walk.{Entry, World, world}
use Rattle.pg_call.specs.Paths.{paths_of}
use Rattle.pg_gate.specs.answer.Folders.{world_including, world_through}
use Rattle.pg_gate.specs.laws.InFolders.{FoldersInTurn}
use Rattle.pg_gate.specs.inner.Folders.{kept_give, kept_lack, names_in}
use Rattle.pg_gate.specs.declared.answer.folders.Folders.{Folders}

-- ---- what a read leaves

abbrev first_name : Option (List (List ℕ)) → ℕ
first_name None = 0
first_name (Some []) = 0
first_name (Some ([] ∷ paths)) = 0
first_name (Some ((name ∷ more) ∷ paths)) = name

-- reads leave the same source, whose name comes first
pub same_source : (old new : ℕ) (before after : List (List ℕ)) → ReadsApart (Some ((old ∷ []) ∷ before)) (Some ((new ∷ []) ∷ after)) → new ≡ old
same_source old new before after r = ap first_name r.adds

module _ {S : Type 0} (members : Ghosts S) (old new : Folders S) where
  abbrev pub given_of : Folders S → Text → Text → Bool
  given_of it = kept_give (members.may_give it.source.now) (members.may_lack it.source.now) (names_in it)

  pub same_give : given_of new ≡ given_of old → members.may_give new.source.now ≡ members.may_give old.source.now
  same_give same = ap {B = Text → Text → Bool} (λ (f : Text → Text → Bool). λ path bytes. f (61 ∷ path) bytes) same

  pub same_lack : given_of new ≡ given_of old → members.may_lack new.source.now ≡ members.may_lack old.source.now
  same_lack same = ap {B = Text → Bool} (λ (f : Text → Text → Bool). λ path. f (63 ∷ path) []) same

-- ---- what is linked through folders

module _ (give : Text → Text → Bool) (lack : Text → Bool) (folders roots : List Text) where
  abbrev from : World
  from = world (kept_give give lack folders) (kept_lack lack folders) [] roots

  abbrev to : World
  to = world_through give lack folders roots

  abbrev imports_at : (path text : Text) (at : ℕ) (other : Text) → walk.ImportsAt from path text at other → walk.ImportsAt to path text at other
  imports_at path text at other i = record {
    file = i.file;
    may_be = record { is_given = i.may_be.is_given; is_parsed = i.may_be.is_parsed };
    front = i.front;
    line = i.line;
    back = i.back;
    splits = i.splits;
    is_at = i.is_at;
    is_path = i.is_path;
  }

  may_import : (path other : Text) → walk.MayImport from path other → walk.MayImport to path other
  may_import path other m = (m.0, m.1, imports_at path m.0 m.1 other m.2)

  comes : (by : List Text) (path : Text) → walk.Comes from by path → walk.Comes to by path
  comes [] path c = c
  comes (p ∷ ps) path c = (may_import p path c.0, comes ps p c.1)

  reached : (path : Text) → walk.Reached from path → walk.Reached to path
  reached path r = (r.0, comes r.0 path r.1)

  may_lead : (path other : Text) → walk.MayLead from path other → walk.MayLead to path other
  may_lead path other walk.Stays = walk.Stays
  may_lead path other (walk.Onwards {last} lead more) = walk.Onwards (may_lead path last lead) (may_import last other more)

  is_entry : (e : Entry) → walk.IsEntry from e → walk.IsEntry to e
  is_entry e is = (record { is_given = is.0.is_given; is_parsed = is.0.is_parsed }, reached (walk.path_of e) is.1)

  pub linked_through : (files : List Entry) → walk.IsLinked from files → walk.IsLinked to files
  linked_through files l = record {
    each = All-weaker (walk.IsEntry from) (walk.IsEntry to) is_entry files l.each;
    in_post_order = l.in_post_order;
    in_order = l.in_order;
    apart = l.apart;
    few = l.few;
    has_roots = l.has_roots;
    from_roots = l.from_roots;
    no_cycle = l.no_cycle;
  }

  asked_at : (place : Place) (path : Text) → walk.IsAskedAt from place path → walk.IsAskedAt to place path
  asked_at place path (inl root) = inl root
  asked_at place path (inr at) = inr (at.0, at.1, at.2, imports_at at.0 at.1 at.2 path at.3, reached at.0 at.4, at.5)

  -- a path that is reached, and may be given
  abbrev IsOther : World → Text → Type 0
  IsOther w other = walk.Reached w other × ((t : Text) × walk.Gives w other t)

  beyond : (path : Text) → walk.IsBeyond from path → walk.IsBeyond to path
  beyond path b = record {
    text = b.text;
    is_given = b.is_given;
    others = b.others;
    many = b.many;
    apart = b.apart;
    each = All-weaker (IsOther from) (IsOther to) (λ other is. (reached other is.0, is.1)) b.others b.each;
  }

  stands_at : (place : Place) (P Q : Text → Text → List Import → Type 0) → ((path other : Text) (front : List Import) → P path other front → Q path other front)
      → walk.StandsAt from place P → walk.StandsAt to place Q
  stands_at place P Q weaker s = record {
    from = s.from;
    text = s.text;
    at = s.at;
    path = s.path;
    imports = imports_at s.from s.text s.at s.path s.imports;
    reached = reached s.from s.reached;
    is_place = s.is_place;
    holds = weaker s.from s.path s.imports.front s.holds;
  }

  stands_in : (place : Place) (at : ℕ) (P : Text → Type 0) → walk.StandsIn from place at P → walk.StandsIn to place at P
  stands_in place at P s = record {
    path = s.path;
    text = s.text;
    is_given = s.is_given;
    reached = reached s.path s.reached;
    is_place = s.is_place;
    holds = s.holds;
  }

  refuses : (e : LinkError) → walk.Refuses from e → walk.Refuses to e
  refuses (error.MissingFile place) r = (r.0, asked_at place r.0 r.1, r.2)
  refuses (error.ImportCycle place) r = stands_at place _ _ (λ path other front lead. may_lead other path lead) r
  refuses (error.DuplicateImport place) r = stands_at place _ _ (λ path other front same. same) r
  refuses (error.TooManyFiles place) r = (r.0, asked_at place r.0 r.1, beyond r.0 r.2)
  refuses (error.SourceFailed place) r = (r.0, reached r.0 r.1, r.2)
  refuses (error.Lex e place) r = stands_in place _ _ r
  refuses (error.Syntax e place) r = stands_in place _ _ r
  refuses error.Memory r = tt
  refuses (error.DuplicateName place) r = absurd r
  refuses (error.UnknownName place) r = absurd r
  refuses (error.NotAType place) r = absurd r
  refuses (error.NotImported place) r = absurd r

  pub refused_through : (e : LinkError) → LinkRefuses from e → LinkRefuses to e
  refused_through e (inl r) = inl (refuses e r)
  refused_through e (inr named) = inr (named.0, linked_through named.0 named.1, named.2)

-- ---- folders in turn

or_none : (a b : Bool) → (a || (b && false)) ≡ a
or_none true b = refl
or_none false true = refl
or_none false false = refl

and_none : (a : Bool) → (a && false) ≡ false
and_none true = refl
and_none false = refl

and_all : (a : Bool) → (a && true) ≡ a
and_all true = refl
and_all false = refl

pub folders_in_turn : FoldersInTurn
folders_in_turn = record {
  alone = λ give lack folder roots. refl;
  one = λ give lack folder path bytes. or_none (give (path_below folder path) bytes) (lack (path_below folder path));
  first = λ give lack folder other path bytes has. rw has (or_none (give (path_below folder path) bytes) false);
  second = λ give lack folder other path bytes gives lacks. rw (gives, lacks) (or_none (give (path_below other path) bytes) (lack (path_below other path)));
  third = λ give lack folder other last path bytes gives lacks gives_too lacks_too.
      rw (gives, lacks, gives_too, lacks_too) (or_none (give (path_below last path) bytes) (lack (path_below last path)));
  one_lacks = λ lack folder path. and_all (lack (path_below folder path));
  both_lack = λ lack folder other path here there. rw (here, there) refl;
  first_has = λ lack folder other path has. rw has refl;
  second_has = λ lack folder other path has. rw has (and_none (lack (path_below folder path)));
  included_gives = λ give lack folder included roots. refl;
  included_lacks = λ give lack folder included roots. refl;
}

-- ---- a folder with included ones

pub including_some : (give : Text → Text → Bool) (lack : Text → Bool) (folder : Text) (includes : List (Bor Text)) (roots : List Text) → (length includes ≡ 0 → ⊥)
    → world_through give lack (folder ∷ paths_of includes) roots ≡ world_including give lack folder (paths_of includes) roots
including_some give lack folder [] roots some = absurd (some refl)
including_some give lack folder (include ∷ includes) roots some = refl
