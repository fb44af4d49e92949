-- What a fault holds, and the numbers and texts of causes, layers and purposes. Assumes nothing.
use Rattle.std.specs.Prelude.{ℕ, Bool, true, false, if◌then◌else◌, List, ◌++◌, codes, Ok, Err, Result, ◌==◌}
use Rattle.translation.specs.declared.fault.Kind.{Kind}
use Rattle.translation.specs.declared.fault.Kind.TheVariants.{Load, Store, Fetch}
use Rattle.translation.specs.declared.fault.Cause.{Cause}
use Rattle.translation.specs.declared.fault.Cause.TheVariants.{Segment, Index, Unsupported, Invalid, Right, SettlingRight, Secure, Beyond}
use Rattle.translation.specs.declared.fault.Layer.{Layer}
use Rattle.translation.specs.declared.fault.Layer.TheVariants.{Process, Partition, Storage}
use Rattle.translation.specs.declared.fault.Purpose.{Purpose}
use Rattle.translation.specs.declared.fault.Purpose.TheVariants.{Datum, PartitionEntry, ProcessEntry, ProcessTree, Settling}
use Rattle.translation.specs.declared.fault.Fault.{Fault}
use Rattle.translation.specs.declared.fault.Setting.{Setting}
use Rattle.translation.specs.declared.fault.Site.{Site}

-- a cause's number
abbrev pub cause_number : Cause → ℕ
cause_number Segment = 1
cause_number Index = 2
cause_number Unsupported = 3
cause_number Invalid = 4
cause_number Right = 5
cause_number SettlingRight = 6
cause_number Secure = 7
cause_number Beyond = 8

-- a layer's number
abbrev pub layer_number : Layer → ℕ
layer_number Process = 1
layer_number Partition = 2
layer_number Storage = 3

-- a purpose's number
abbrev pub purpose_number : Purpose → ℕ
purpose_number Datum = 0
purpose_number PartitionEntry = 1
purpose_number ProcessEntry = 2
purpose_number ProcessTree = 3
purpose_number Settling = 4

-- a cause in words
abbrev pub cause_text : Cause → List ℕ
cause_text Segment = codes "no segment"
cause_text Index = codes "an index outside its table"
cause_text Unsupported = codes "an unsupported form"
cause_text Invalid = codes "no valid entry"
cause_text Right = codes "a missing right"
cause_text SettlingRight = codes "a missing right to settle the process leaf"
cause_text Secure = codes "a secure frame"
cause_text Beyond = codes "an address beyond the memory"

-- a layer in words: where an access stopped
abbrev pub layer_text : Layer → List ℕ
layer_text Process = codes "in the process's tables"
layer_text Partition = codes "in the partition's tables"
layer_text Storage = codes "at the storage itself"

-- a purpose in words: what an access was on the way to
abbrev pub purpose_text : Purpose → List ℕ
purpose_text Datum = codes "the datum"
purpose_text PartitionEntry = codes "the partition's entry"
purpose_text ProcessEntry = codes "the process's entry"
purpose_text ProcessTree = codes "an entry of the process's tree"
purpose_text Settling = codes "the process leaf, to settle it"

-- a fault in words: why, where and on the way to what
abbrev pub fault_text : Fault → List ℕ
fault_text f = cause_text f.cause ++ codes ", " ++ layer_text f.layer ++ codes ", on the way to " ++ purpose_text f.purpose

abbrev pub is_fetch : Kind → Bool
is_fetch Load = false
is_fetch Store = false
is_fetch Fetch = true

abbrev pub is_store : Kind → Bool
is_store Load = false
is_store Store = true
is_store Fetch = false

-- the thread's own storage interrupt, of data or of a fetch
abbrev pub own_vector : Kind → ℕ
own_vector k = if is_fetch k then 0x400 else 0x300

-- the hypervisor's, for layers 2 and 3 of a nonzero LPID
abbrev pub partition_vector : Setting → ℕ
partition_vector s = if s.lpid == 0 then own_vector s.kind else if is_fetch s.kind then 0xE20 else 0xE00

abbrev pub storage_vector : Setting → Layer → ℕ
storage_vector s Process = own_vector s.kind
storage_vector s Partition = partition_vector s
storage_vector s Storage = partition_vector s

-- the segment interrupt
abbrev pub segment_vector : Kind → ℕ
segment_vector k = if is_fetch k then 0x480 else 0x380

-- 0x200 beyond the memory, 0x380 or 0x480 for a segment, else a storage interrupt
abbrev pub vector_of : Setting → Layer → Cause → ℕ
vector_of s l Segment = segment_vector s.kind
vector_of s l Index = storage_vector s l
vector_of s l Unsupported = storage_vector s l
vector_of s l Invalid = storage_vector s l
vector_of s l Right = storage_vector s l
vector_of s l SettlingRight = storage_vector s l
vector_of s l Secure = storage_vector s l
vector_of s l Beyond = 0x200

-- a fault repeats its site and the access
unfoldable pub fault_at : Setting → Site → Layer → Cause → ℕ → ℕ → Fault
fault_at s site layer cause real count =
    record {
      cause = cause;
      layer = layer;
      purpose = site.purpose;
      depth = site.depth;
      ea = s.ea;
      guest = site.guest;
      real = real;
      vector = vector_of s layer cause;
      store = is_store s.kind;
      count = count;
    }

-- a check's answer, with its cause made a fault of this site
abbrev pub faulted : {A : Type 0} → Setting → Site → Layer → ℕ → Result A Cause → Result A Fault
faulted s site l n (Ok a) = Ok a
faulted s site l n (Err c) = Err (fault_at s site l c 0 n)
