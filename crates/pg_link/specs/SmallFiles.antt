-- What names name on small files, what small files declare, and which imports are never linked.
use Rattle.std.specs.List.{IsAmong}
use Rattle.std.specs.Prelude.{◌≡◌, ℕ, true, false, List, [], ◌∷◌, ◌++◌, Some, None, codes, map}
use Rattle.pg_link.specs.declared.names.Kind.{Kind}
use Rattle.pg_link.specs.declared.names.Kind.TheVariants.{Message, Enum, Entry, Value, Field, Oneof, Service, Method}
use Rattle.pg_link.specs.names.Declares.{Word, Declarations, Done, Alone, MapField, Within, Beside, names_of_file}
use Rattle.pg_link.specs.names.Files.{File, Import, Declared, InOrder, Differ, visible_names, all_names, seen_paths, import_paths, paths_of}
use Rattle.pg_link.specs.names.Names.{Text, Names}
use Rattle.pg_link.specs.walk.PostOrder.{IsPostOrder}
use Rattle.pg_link.specs.names.Resolves.{Reference, found}
use Rattle.pg_link.specs.names.Standing.{Standing, NoneTwice, standing}
use Rattle.pg_link.specs.walk.Walk.{World, Entry as Read, IsLinked, outlines}

-- a name without a dot in front, and one with it
abbrev pub part : Text → List Text → Reference
part first more = record { is_full = false; first = first; more = more }

abbrev pub full : Text → List Text → Reference
full first more = record { is_full = true; first = first; more = more }

abbrev pub declared : Kind → Text → Declared
declared kind name = record { name = name; kind = kind; at = 0 }

abbrev pub file : Text → List Import → List Declared → File
file path imports names = record { path = path; imports = imports; declared = names }

abbrev pub line : Text → Import
line path = record { path = path; is_public = false; at = 0 }

abbrev pub public_line : Text → Import
public_line path = record { path = path; is_public = true; at = 0 }

-- a file of this path that imports just these paths, wherever its words are and whatever it declares
pub record IsImporting (path : Text) (others : List Text) (f : File) : Type 0 where
  pub is_path : f.path ≡ path
  pub are_imports : import_paths f.imports ≡ others

-- Files with such a one among them are never linked, whatever the source gives and whichever others are there.
abbrev pub IsNeverLinked : Text → List Text → Type 0
IsNeverLinked path others = (w : World) (entries : List Read) (f : File) → IsAmong (outlines entries) f
    → IsImporting path others f → IsLinked w entries → ⊥

-- two files, each of which imports just the other
abbrev pub AreNeverLinked : Text → Text → Type 0
AreNeverLinked path other = (w : World) (entries : List Read) (f g : File) → IsAmong (outlines entries) f
    → IsAmong (outlines entries) g
    → IsImporting path (other ∷ []) f → IsImporting other (path ∷ []) g → IsLinked w entries → ⊥

abbrev pub word : Text → Word
word text = record { text = text; at = 0 }

abbrev pub in_own_file : Declarations → List Word → Declarations → Names
in_own_file front words behind = visible_names
    (file (codes "m.proto") [] (names_of_file front words behind) ∷ []) (codes "m.proto")

-- package p; message A { message B { } } message C { message A { } }
abbrev pub nested : Names
nested = in_own_file Done (word (codes "p") ∷ [])
    (Within Message (word (codes "A")) (Within Message (word (codes "B")) Done Done)
    (Within Message (word (codes "C")) (Within Message (word (codes "A")) Done Done) Done))

abbrev pub in_c : List Text
in_c = codes "p" ∷ codes "C" ∷ []

-- the first file has package q.p; and message M { }, and imports one with package p; message K { }
abbrev pub shadowed : Names
shadowed = visible_names
    (file (codes "m.proto") (line (codes "a.proto") ∷ [])
    (names_of_file Done (word (codes "q") ∷ word (codes "p") ∷ []) (Within Message (word (codes "M")) Done Done))
    ∷ file (codes "a.proto") [] (names_of_file Done (word (codes "p") ∷ [])
    (Within Message (word (codes "K")) Done Done)) ∷ []) (codes "m.proto")

-- package x.y; message M { } with these imports, of a.proto (package p; message K { }) and of c.proto (package x.p;)
abbrev pub within_x : List Import → Names
within_x imports = visible_names
    (file (codes "m.proto") imports
    (names_of_file Done (word (codes "x") ∷ word (codes "y") ∷ []) (Within Message (word (codes "M")) Done Done))
    ∷ file (codes "a.proto") [] (names_of_file Done (word (codes "p") ∷ [])
    (Within Message (word (codes "K")) Done Done))
    ∷ file (codes "c.proto") [] (names_of_file Done (word (codes "x") ∷ word (codes "p") ∷ []) Done) ∷ [])
    (codes "m.proto")

abbrev pub in_x : List Text
in_x = codes "x" ∷ codes "y" ∷ codes "M" ∷ []

-- a.proto (message M { }) imports b.proto, which imports c.proto by this line; c.proto (message K { }) imports
-- d.proto (enum E) publicly
abbrev pub chain : Import → List File
chain last = file (codes "a.proto") (line (codes "b.proto") ∷ []) (declared Message (codes ".M") ∷ [])
    ∷ file (codes "b.proto") (last ∷ []) []
    ∷ file (codes "c.proto") (public_line (codes "d.proto") ∷ []) (declared Message (codes ".K") ∷ [])
    ∷ file (codes "d.proto") [] (declared Enum (codes ".E") ∷ []) ∷ []

abbrev pub seen_by : Text → Import → Names
seen_by path last = visible_names (chain last) path

-- a.proto imports b.proto and then c.proto, and both of these import d.proto
abbrev pub file_a : File
file_a = file (codes "a.proto") (line (codes "b.proto") ∷ line (codes "c.proto") ∷ []) []

abbrev pub file_b : File
file_b = file (codes "b.proto") (line (codes "d.proto") ∷ []) []

abbrev pub file_c : File
file_c = file (codes "c.proto") (line (codes "d.proto") ∷ []) []

abbrev pub file_d : File
file_d = file (codes "d.proto") [] []

abbrev pub in_m : List Text
in_m = codes "M" ∷ []

-- enum E { A = 0; } service S { rpc R } message M { int32 E = 1; map<int32, int32> foo_bar = 2;
-- oneof o { int32 x = 3; } }
abbrev pub mixed_tree : Declarations
mixed_tree = Beside Enum (word (codes "E")) (Alone Value (word (codes "A")) Done)
    (Within Service (word (codes "S")) (Alone Method (word (codes "R")) Done)
    (Within Message (word (codes "M")) (Alone Field (word (codes "E")) (MapField (word (codes "foo_bar"))
    (Beside Oneof (word (codes "o")) (Alone Field (word (codes "x")) Done) Done))) Done))

abbrev pub mixed : Names
mixed = in_own_file mixed_tree [] Done

-- message p { }
abbrev pub message_p : Declarations
message_p = Within Message (word (codes "p")) Done Done

-- the names of the file of this number, which has these declarations and the parts of its package
abbrev pub names_in : ℕ → Declarations → List Word → List Standing
names_in number front words = map (standing number) (names_of_file front words Done)

pub record SmallFiles : Type 0 where
  -- in C, `A.B` is sought in the nearest A alone
  pub first_part_decides : found nested in_c (part (codes "A") (codes "B" ∷ [])) ≡ None
  pub leading_dot : found nested in_c (full (codes "p") (codes "A" ∷ codes "B" ∷ [])) ≡ Some (codes ".p.A.B", Message)
  pub leading_dot_seeks_no_scope : found nested in_c (full (codes "A") []) ≡ None
  pub package_is_a_first_part : found nested in_c (part (codes "p") (codes "A" ∷ codes "B" ∷ []))
      ≡ Some (codes ".p.A.B", Message)
  pub package_is_no_word : found nested in_c (part (codes "p") []) ≡ None
  pub innermost_counts : found nested in_c (part (codes "A") []) ≡ Some (codes ".p.C.A", Message)
  pub outwards : found nested in_c (part (codes "C") (codes "A" ∷ [])) ≡ Some (codes ".p.C.A", Message)
  -- the inner package part shadows the outer one
  pub package_shadows : found shadowed (codes "q" ∷ codes "M" ∷ []) (part (codes "p") (codes "K" ∷ [])) ≡ None
  pub leading_dot_sees_behind : found shadowed (codes "q" ∷ codes "M" ∷ []) (full (codes "p") (codes "K" ∷ []))
      ≡ Some (codes ".p.K", Message)
  -- a package part of a file that isn't seen shadows nothing
  pub unseen_package_shadows_nothing : found (within_x (line (codes "a.proto") ∷ [])) in_x
      (part (codes "p") (codes "K" ∷ [])) ≡ Some (codes ".p.K", Message)
  pub seen_package_shadows : found (within_x (line (codes "a.proto") ∷ line (codes "c.proto") ∷ [])) in_x
      (part (codes "p") (codes "K" ∷ [])) ≡ None
  pub import_is_not_handed_on : found (seen_by (codes "a.proto") (line (codes "c.proto"))) in_m
      (part (codes "K") []) ≡ None
  pub another_file_has_it : found (all_names (chain (line (codes "c.proto")))) in_m (part (codes "K") [])
      ≡ Some (codes ".K", Message)
  pub public_import_is_handed_on : found (seen_by (codes "a.proto") (public_line (codes "c.proto"))) in_m
      (part (codes "K") []) ≡ Some (codes ".K", Message)
  pub through_two_files : found (seen_by (codes "a.proto") (public_line (codes "c.proto"))) in_m
      (part (codes "E") []) ≡ Some (codes ".E", Enum)
  pub importers_are_not_seen : found (seen_by (codes "b.proto") (public_line (codes "c.proto"))) in_m
      (part (codes "M") []) ≡ None
  pub seen : seen_paths (chain (public_line (codes "c.proto"))) (codes "a.proto")
      ≡ codes "a.proto" ∷ codes "b.proto" ∷ codes "c.proto" ∷ codes "d.proto" ∷ []
  pub each_stands_before_its_imports : InOrder (chain (line (codes "c.proto")))
  pub each_path_once : Differ (paths_of (chain (line (codes "c.proto"))))
  -- two files that import each other, and one that imports itself
  pub circle_of_two : AreNeverLinked (codes "a.proto") (codes "b.proto")
  pub circle_of_one : IsNeverLinked (codes "a.proto") (codes "a.proto" ∷ [])
  -- a file that imports one path twice, also with another between
  pub import_twice : IsNeverLinked (codes "m.proto") (codes "b.proto" ∷ codes "b.proto" ∷ [])
  pub import_twice_apart : IsNeverLinked (codes "m.proto") (codes "b.proto" ∷ codes "c.proto" ∷ codes "b.proto" ∷ [])
  -- imports are followed from the first, and so are roots; each file comes after what it imports
  pub from_the_first_import : IsPostOrder (codes "a.proto" ∷ []) (file_d ∷ file_b ∷ file_c ∷ file_a ∷ [])
  pub not_from_the_last_import : IsPostOrder (codes "a.proto" ∷ []) (file_d ∷ file_c ∷ file_b ∷ file_a ∷ []) → ⊥
  pub from_the_first_root : IsPostOrder (codes "b.proto" ∷ codes "c.proto" ∷ []) (file_d ∷ file_b ∷ file_c ∷ [])
  pub not_from_the_last_root : IsPostOrder (codes "b.proto" ∷ codes "c.proto" ∷ []) (file_d ∷ file_c ∷ file_b ∷ []) → ⊥
  pub not_before_its_imports : IsPostOrder (codes "b.proto" ∷ []) (file_b ∷ file_d ∷ []) → ⊥
  -- a name without a dot passes over fields and services, which a full name finds
  pub field_is_passed_over : found mixed in_m (part (codes "E") []) ≡ Some (codes ".E", Enum)
  pub service_is_passed_over : found mixed in_m (part (codes "S") []) ≡ None
  pub full_name_of_a_service : found mixed in_m (full (codes "S") []) ≡ Some (codes ".S", Service)
  pub method_is_in_its_service : found mixed in_m (full (codes "S") (codes "R" ∷ [])) ≡ Some (codes ".S.R", Method)
  pub value_is_beside_its_enum : found mixed in_m (full (codes "A") []) ≡ Some (codes ".A", Value)
  pub no_value_is_in_an_enum : found mixed in_m (part (codes "E") (codes "A" ∷ [])) ≡ None
  pub member_is_beside_its_oneof : found mixed in_m (full (codes "M") (codes "x" ∷ [])) ≡ Some (codes ".M.x", Field)
  pub entry_is_found : found mixed in_m (part (codes "FooBarEntry") []) ≡ Some (codes ".M.FooBarEntry", Entry)
  pub nothing_is_in_an_entry : found mixed in_m (part (codes "FooBarEntry") (codes "key" ∷ [])) ≡ None
  -- message A { } message A { }
  pub message_twice : NoneTwice (names_in 0
      (Within Message (word (codes "A")) Done (Within Message (word (codes "A")) Done Done)) []) → ⊥
  -- message p { } in one file and package p; in another, in either order; in one file the message is in the package
  pub package_behind_message : NoneTwice (names_in 0 message_p [] ++ names_in 1 Done (word (codes "p") ∷ [])) → ⊥
  pub message_behind_package : NoneTwice (names_in 0 Done (word (codes "p") ∷ []) ++ names_in 1 message_p []) → ⊥
  pub message_in_its_package : NoneTwice (names_in 0 message_p (word (codes "p") ∷ []))
  -- package p; in two files
  pub package_of_two_files : NoneTwice (names_in 0 Done (word (codes "p") ∷ [])
      ++ names_in 1 Done (word (codes "p") ∷ []))
